-- What a row of a scope is on a state, by its operands.
use Rattle.std.proofs.Common.{◌≡◌, ℕ, ◌<◌, Bool, true, not, ◌&&◌, ◌||◌, List, [], ◌∷◌, get_or, sym, refl, ap, ◌∙◌, subst, ap₂, arith}
use Rattle.std.proofs.lemmas.Bool.{false≢true}
use Rattle.rows.specs.Kinds.{may_scope}
use Rattle.rows.specs.Reach.{Reached, here, down}
use Rattle.rows.specs.Rows.{blank}
use Rattle.rows.specs.declared.kind.HalfUse.TheVariants.{Operand}
use Rattle.rows.specs.declared.kind.Kind.{Kind}
use Rattle.rows.specs.declared.kind.Kind.TheVariants.{Top, Flag, Code, Not, And, Or, Next, Until, Always, Eventually, In}
use Rattle.rows.specs.declared.row.Row.{Row}
use Rattle.rows.proofs.Halves.{half, half_use, half_operand, named_half}
use Rattle.scales.specs.YesNo.{yes_no}
use Rattle.scales.proofs.Marks.{is_yes_answer, is_yes_opposite, is_yes_both, is_yes_either}
use Rattle.sessions.specs.States.{has_flag}
use Rattle.sessions.specs.declared.state.State.{State}
use Rattle.meaning.specs.Formulas.{formula_by, formula_at}
use Rattle.meaning.specs.Meaning.{mark, in_scope}
use Rattle.meaning.proofs.Formulas.{formula_row}
use Rattle.scopes.specs.Ruled.{ScopeRoot}

module _ (rows : List Row) (i : ℕ) (root : ScopeRoot rows i) (state : State) where
  abbrev row : Row
  row = get_or rows i blank

  -- whether the state is in the scope that an operand is
  abbrev left_holds : Bool
  left_holds = in_scope (formula_at rows row.left) state

  abbrev right_holds : Bool
  right_holds = in_scope (formula_at rows row.right) state

  by_kind : {kind : Kind} → row.kind ≡ kind → in_scope (formula_at rows i) state ≡ in_scope (formula_by kind row.left row.right (formula_at rows row.left) (formula_at rows row.right)) state
  by_kind is =
      ap (λ f. in_scope f state) (formula_row rows i root.within (root.below i))
      ∙ ap (λ k. in_scope (formula_by k row.left row.right (formula_at rows row.left) (formula_at rows row.right)) state) is

  pub top_holds : row.kind ≡ Top → in_scope (formula_at rows i) state ≡ true
  unfolding mark
  top_holds is = by_kind is

  pub flag_holds : row.kind ≡ Flag → in_scope (formula_at rows i) state ≡ has_flag row.left state
  unfolding mark
  flag_holds is = by_kind is ∙ is_yes_answer (has_flag row.left state)

  pub not_holds : row.kind ≡ Not → in_scope (formula_at rows i) state ≡ not left_holds
  unfolding mark
  not_holds is = by_kind is ∙ is_yes_opposite (mark yes_no (formula_at rows row.left) (state ∷ []))

  pub and_holds : row.kind ≡ And → in_scope (formula_at rows i) state ≡ (left_holds && right_holds)
  unfolding mark
  and_holds is = by_kind is ∙ is_yes_both (mark yes_no (formula_at rows row.left) (state ∷ [])) (mark yes_no (formula_at rows row.right) (state ∷ []))

  pub or_holds : row.kind ≡ Or → in_scope (formula_at rows i) state ≡ (left_holds || right_holds)
  unfolding mark
  or_holds is = by_kind is ∙ is_yes_either (mark yes_no (formula_at rows row.left) (state ∷ [])) (mark yes_no (formula_at rows row.right) (state ∷ []))

  -- what the code returns, where the numbers of the operands are l and r
  module _ (l r : ℕ) (is_left : l ≡ row.left) (is_right : r ≡ row.right) where
    at_left : {b : Bool} → b ≡ in_scope (formula_at rows l) state → b ≡ left_holds
    at_left e = e ∙ ap (λ n. in_scope (formula_at rows n) state) is_left

    at_right : {b : Bool} → b ≡ in_scope (formula_at rows r) state → b ≡ right_holds
    at_right e = e ∙ ap (λ n. in_scope (formula_at rows n) state) is_right

    pub not_answer : {b : Bool} → row.kind ≡ Not → b ≡ in_scope (formula_at rows l) state → not b ≡ in_scope (formula_at rows i) state
    not_answer is e = ap not (at_left e) ∙ sym (not_holds is)

    pub and_answer : {a b : Bool} → row.kind ≡ And → a ≡ in_scope (formula_at rows l) state → b ≡ in_scope (formula_at rows r) state → (a && b) ≡ in_scope (formula_at rows i) state
    and_answer is e f = ap₂ ◌&&◌ (at_left e) (at_right f) ∙ sym (and_holds is)

    pub or_answer : {a b : Bool} → row.kind ≡ Or → a ≡ in_scope (formula_at rows l) state → b ≡ in_scope (formula_at rows r) state → (a || b) ≡ in_scope (formula_at rows i) state
    or_answer is e f = ap₂ ◌||◌ (at_left e) (at_right f) ∙ sym (or_holds is)

-- what is reached from what is reached
onward : (rows : List Row) (k j : ℕ) {i : ℕ} → Reached rows k j → Reached rows j i → Reached rows k i
onward rows k j first here = first
onward rows k j first (down m i second operand) = down m i (onward rows k j first second) operand

-- An operand n of the root of a scope is the root of a scope, below the row, whose number t is.
pub operand_root : (rows : List Row) (i n t : ℕ) → ScopeRoot rows i → (side : Bool) {kind : Kind} → (get_or rows i blank).kind ≡ kind → half_use side kind ≡ Operand → n ≡ half side (get_or rows i blank) → i ≡ t → (n < t) × ScopeRoot rows n
operand_root rows i n t root side is operand same here_is =
    let row = get_or rows i blank in
    let names = half_operand side row (half side row) (named_half side row (ap (half_use side) is ∙ operand)) in
    let down_to : Reached rows i (half side row) = down i (half side row) here names in
    let less = root.below i (half side row) names in
    let within = root.within in
    let sub : ScopeRoot rows (half side row) = record { within = omega arith; below = root.below; kinds = λ k reached. root.kinds k (onward rows i (half side row) down_to reached) } in
    (omega arith, subst (ScopeRoot rows) (sym same) sub)

-- no other kind may stand in a scope
pub no_other : (kind : Kind) → may_scope kind ≡ true → (kind ≡ Top → ⊥) → (kind ≡ Flag → ⊥) → (kind ≡ Not → ⊥) → (kind ≡ And → ⊥) → (kind ≡ Or → ⊥) → ⊥
no_other Top may a b c d e = a refl
no_other Flag may a b c d e = b refl
no_other Code may a b c d e = false≢true may
no_other Not may a b c d e = c refl
no_other And may a b c d e = d refl
no_other Or may a b c d e = e refl
no_other Next may a b c d e = false≢true may
no_other Until may a b c d e = false≢true may
no_other Always may a b c d e = false≢true may
no_other Eventually may a b c d e = false≢true may
no_other In may a b c d e = false≢true may
