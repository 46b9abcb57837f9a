-- Rows and their operands.
use Rattle.std.specs.Prelude.{ℕ, ◌+◌, Bool, cond, List, length, Some, None, sum_by, Option, nat_lt, slice_index_or}
use Rattle.rows.specs.Kinds.{left_use, right_use, names_row}
use Rattle.rows.specs.declared.kind.Kind.TheVariants.{Top}
use Rattle.rows.specs.declared.half.Half.{Half}
use Rattle.rows.specs.declared.row.Row.{Row}

-- what stands where a list of rows has no row: no definition here depends on it
abbrev pub blank : Row
blank = record { kind = Top; left = 0; right = 0 }

-- what stands at place i of a list, if anything does
abbrev pub item_of : {X : Type 0} → List X → ℕ → X → Option X
item_of xs i d = cond (nat_lt i (length xs)) (Some (slice_index_or xs i d)) None

-- row i is the left operand, the right operand
abbrev pub left_is : Row → ℕ → Bool
left_is r i = names_row (left_use r.kind) r.left i

abbrev pub right_is : Row → ℕ → Bool
right_is r i = names_row (right_use r.kind) r.right i

-- the left and the right half of a row: what its kind has it for, and its value
abbrev pub halves_of : Row → Half × Half
halves_of r = (record { of = left_use r.kind; value = r.left }, record { of = right_use r.kind; value = r.right })

-- how many operands of one row, and of all rows, are row i
abbrev pub uses_by : Row → ℕ → ℕ
uses_by r i = cond (left_is r i) 1 0 + cond (right_is r i) 1 0

abbrev pub uses : List Row → ℕ → ℕ
uses rows i = sum_by (λ r. uses_by r i) rows
