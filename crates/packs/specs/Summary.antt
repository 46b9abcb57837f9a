-- How much a pack has from a place on.
use Rattle.std.specs.Prelude.{ℕ, ◌-◌, Bool, true, false, List, ◌++◌, map, length, Some, None, codes, decimal, sum_by, count_by, Option}
use Rattle.std.specs.List.{range_with_len}
use Rattle.tables.specs.Faults.{rule_bytes_fault}
use Rattle.tables.specs.Format.{rows_of}
use Rattle.tables.specs.declared.fault.TableFault.{TableFault}
use Rattle.packs.specs.Format.{rule_count, table_of}
use Rattle.packs.specs.declared.summary.Summary.{Summary}

abbrev pub rows_by : List ℕ → Option TableFault → ℕ
rows_by table None = length (rows_of table)
rows_by table (Some fault) = 0

-- the rows of a rule of these bytes, none if it is refused
unfoldable pub lawful_rows_in : List ℕ → ℕ
lawful_rows_in table = rows_by table (rule_bytes_fault table)

abbrev pub refused_by : Option TableFault → Bool
refused_by None = false
refused_by (Some fault) = true

unfoldable pub is_refused : List ℕ → Bool
is_refused table = refused_by (rule_bytes_fault table)

-- the tables of n rules from rule k on
abbrev pub tables_from : List ℕ → ℕ → ℕ → List (List ℕ)
tables_from bytes k n = map (table_of bytes) (range_with_len k n)

abbrev pub summary_of : List ℕ → ℕ → Summary
summary_of bytes k = record {
  rules = rule_count bytes - k;
  rows = sum_by lawful_rows_in (tables_from bytes k (rule_count bytes - k));
  refused = count_by is_refused (tables_from bytes k (rule_count bytes - k));
}

-- how a summary is printed
abbrev pub printed : Summary → List ℕ
printed s = decimal s.rules ++ (codes " rules, " ++ (decimal s.rows ++ (codes " rows, " ++ (decimal s.refused ++ codes " refused"))))
