-- The two halves of a row by one name: true is the left half, false the right half.
use Rattle.std.proofs.Common.{◌≡◌, ℕ, Bool, true, false, ◌||◌, refl, ap, ◌∙◌, arith}
use Rattle.std.proofs.lemmas.Bool.{eq-eqb}
use Rattle.rows.specs.Kinds.{is_in, left_use, right_use, names_row}
use Rattle.rows.specs.Rows.{left_is, right_is}
use Rattle.rows.specs.declared.kind.HalfUse.{HalfUse}
use Rattle.rows.specs.declared.kind.HalfUse.TheVariants.{Operand}
use Rattle.rows.specs.declared.kind.Kind.{Kind}
use Rattle.rows.specs.declared.row.Row.{Row}

abbrev pub half : Bool → Row → ℕ
half true r = r.left
half false r = r.right

abbrev pub half_use : Bool → Kind → HalfUse
half_use true kind = left_use kind
half_use false kind = right_use kind

abbrev pub half_is : Bool → Row → ℕ → Bool
half_is true r i = left_is r i
half_is false r i = right_is r i

pub half_operand : (side : Bool) (r : Row) (i : ℕ) → half_is side r i ≡ true → (left_is r i || right_is r i) ≡ true
half_operand side r i is = grind arith

-- a half that is an operand names its row
pub named_half : (side : Bool) (r : Row) → half_use side r.kind ≡ Operand → half_is side r (half side r) ≡ true
named_half true r is = ap (λ u. names_row u r.left r.left) is ∙ eq-eqb r.left r.left refl
named_half false r is = ap (λ u. names_row u r.right r.right) is ∙ eq-eqb r.right r.right refl

-- both halves of an in row are operands
pub in_use : (side : Bool) (kind : Kind) → is_in kind ≡ true → half_use side kind ≡ Operand
in_use side kind in_row = grind arith
