-- What is listed of a file that holds a plain table.
use Rattle.std.specs.Prelude.{ℕ, cond, List, ◌++◌, length, Some, None, codes, decimal, Option, nat_lt}
pub use Rattle.rows.specs.Printed.{half_text}
use Rattle.rows.specs.Printed.{row_text}
use Rattle.rows.specs.declared.row.Row.{Row}
use Rattle.tables.specs.Faults.{plain_bytes_fault}
use Rattle.tables.specs.Format.{rows_of, stated_flags, stated_codes}
use Rattle.tables.specs.Told.{told}
use Rattle.tables.specs.declared.fault.TableFault.{TableFault}
use Rattle.tables.specs.declared.fault.TableFault.TheVariants.{Length}
use Rattle.report.specs.Lines.{head_text, file_line, numbered}

abbrev pub row_line : ℕ → Row → List ℕ
row_line i r = decimal i ++ (codes " " ++ (row_text r ++ codes "\n"))

abbrev pub head_line : ℕ → ℕ → ℕ → List ℕ
head_line rows flags used = head_text rows flags used ++ codes "\n"

-- the lines of rows that are numbered from i on
abbrev pub row_lines : ℕ → List Row → List ℕ
row_lines i rows = numbered row_line i rows

-- the first line of a table, and then a line for each row
abbrev pub table_lines : ℕ → ℕ → List Row → List ℕ
table_lines flags used rows = head_line (length rows) flags used ++ row_lines 0 rows

abbrev pub refused_table : TableFault → List ℕ
refused_table fault = file_line (told fault).number (told fault).place

abbrev pub plain_by : List ℕ → Option TableFault → List ℕ
plain_by bytes None = table_lines (stated_flags bytes) (stated_codes bytes) (rows_of bytes)
plain_by bytes (Some fault) = refused_table fault

-- a file of more than 65,536 bytes is refused as a table of a wrong length
abbrev pub listing : List ℕ → List ℕ
listing file = cond (nat_lt 65536 (length file)) (refused_table Length) (plain_by file (plain_bytes_fault file))
