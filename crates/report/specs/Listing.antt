-- What is listed of a file that holds a pack.
use Rattle.std.specs.Prelude.{ℕ, cond, List, ◌++◌, length, Some, None, Option, nat_lt}
use Rattle.std.specs.List.{range_with_len, flat_map}
use Rattle.tables.specs.Faults.{rule_bytes_fault}
use Rattle.tables.specs.Format.{rows_of, stated_flags, stated_codes}
use Rattle.tables.specs.Told as table
use Rattle.tables.specs.declared.fault.TableFault.{TableFault}
use Rattle.packs.specs.Format.{rule_count, label_of, table_of, pack_fault}
use Rattle.packs.specs.Summary.{summary_of}
use Rattle.packs.specs.Told as pack
use Rattle.packs.specs.declared.fault.PackFault.{PackFault}
use Rattle.packs.specs.declared.fault.PackFault.TheVariants.{Length}
use Rattle.report.specs.Lines.{summary_text, rule_line, refused_line, file_line}

-- the line of a rule with this label and this table, in which this fault is found, if any
abbrev pub line_by : ℕ → List ℕ → Option TableFault → List ℕ
line_by label bytes None = rule_line label (length (rows_of bytes)) (stated_flags bytes) (stated_codes bytes)
line_by label bytes (Some fault) = refused_line label (table.told fault).number (table.told fault).place

unfoldable pub line_of : ℕ → List ℕ → List ℕ
line_of label bytes = line_by label bytes (rule_bytes_fault bytes)

-- the line of rule k of a pack
abbrev pub line_at : List ℕ → ℕ → List ℕ
line_at bytes k = line_of (label_of bytes k) (table_of bytes k)

-- the summary of a pack, and then the lines of all its rules in pack order
unfoldable pub lines_of : List ℕ → List ℕ
lines_of bytes = summary_text (summary_of bytes 0) ++ flat_map (line_at bytes) (range_with_len 0 (rule_count bytes))

abbrev pub refused_pack : PackFault → List ℕ
refused_pack fault = file_line (pack.told fault).number (pack.told fault).place

abbrev pub listing_by : List ℕ → Option PackFault → List ℕ
listing_by bytes None = lines_of bytes
listing_by bytes (Some fault) = refused_pack fault

-- a file of more than 65,536 bytes is refused as a pack of a wrong length
abbrev pub listing : List ℕ → List ℕ
listing file = cond (nat_lt 65536 (length file)) (refused_pack Length) (listing_by file (pack_fault file))
