-- How a row is printed: the word of its kind, and the halves that its kind uses.
use Rattle.std.specs.Prelude.{ℕ, List, [], ◌++◌, codes, decimal}
use Rattle.rows.specs.Kinds.{word_of, left_use, right_use}
use Rattle.rows.specs.declared.kind.HalfUse.{HalfUse}
use Rattle.rows.specs.declared.kind.HalfUse.TheVariants.{Zero, FlagNumber, CodeNumber, Operand}
use Rattle.rows.specs.declared.row.Row.{Row}

-- a half that is used stands after a space
abbrev pub half_text : HalfUse → ℕ → List ℕ
half_text Zero half = []
half_text FlagNumber half = codes " " ++ decimal half
half_text CodeNumber half = codes " " ++ decimal half
half_text Operand half = codes " " ++ decimal half

abbrev pub row_text : Row → List ℕ
row_text r = word_of r.kind ++ (half_text (left_use r.kind) r.left ++ half_text (right_use r.kind) r.right)
