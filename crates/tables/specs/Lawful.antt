-- Which tables are lawful: those in which the checks find nothing.
use Rattle.std.specs.Prelude.{ℕ, Bool, true, false, List, length, Some, None, Option, slice_index_or}
use Rattle.refusals.specs.First.{then, first_from}
use Rattle.rows.specs.Rows.{blank}
use Rattle.rows.specs.declared.row.Row.{Row}
use Rattle.tables.specs.Faults.{size_fault, row_fault, rule_fault}
use Rattle.tables.specs.declared.form.Form.{Form}
use Rattle.tables.specs.declared.fault.TableFault.{TableFault}

-- the sizes of a table, and its rows one by one
unfoldable pub rows_fault : Form → ℕ → ℕ → List Row → Option TableFault
rows_fault form flags codes rows =
    then (size_fault form (length rows) flags codes) (first_from (λ i. row_fault form flags codes i (slice_index_or rows i blank)) 0 (length rows))

abbrev pub none_found : Option TableFault → Bool
none_found None = true
none_found (Some fault) = false

unfoldable pub lawful_rows : Form → ℕ → ℕ → List Row → Bool
lawful_rows form flags codes rows = none_found (rows_fault form flags codes rows)

-- what is checked of a rule beyond its single rows
unfoldable pub lawful_rule : List Row → Bool
lawful_rule rows = none_found (rule_fault rows)
