-- The formula of a row in a scope is propositional, and so all scopes in the formulas of the other rows are.
use Rattle.std.proofs.Common.{◌≡◌, ℕ, zero, suc, ◌-◌, ◌<◌, Bool, true, false, List, length, get_or, sym, refl, ap, ◌∙◌, subst, ⊎_elim, arith}
use Rattle.std.proofs.lemmas.Bool.{cases_Bool, false≢true}
use Rattle.meaning.specs.Formulas.{Formula, formula_by, formula_at}
use Rattle.meaning.specs.Gated.{Propositional, Scoped}
use Rattle.rows.specs.Homes.{home, in_scope}
use Rattle.rows.specs.Kinds.{is_in, may_scope, left_use, right_use}
use Rattle.rows.specs.Rows.{blank}
use Rattle.rows.specs.declared.kind.HalfUse.TheVariants.{Operand}
use Rattle.rows.specs.declared.kind.Kind.{Kind}
use Rattle.rows.specs.declared.kind.Kind.TheVariants.{Top, Flag, Code, Not, And, Or, Next, Until, Always, Eventually, In}
use Rattle.rows.specs.declared.row.Row.{Row}
use Rattle.tables.specs.Lawful.{lawful_rows, lawful_rule}
use Rattle.tables.specs.declared.form.Form.TheVariants.{Rule}
use Rattle.rows.proofs.Halves.{half, half_use, in_use}
use Rattle.rows.proofs.Operands.{last_outside}
use Rattle.rows.proofs.Parents.{given_same, given_new, given_keeps_scope}
use Rattle.scopes.specs.Ruled.{Ruled}
use Rattle.scopes.proofs.Rules.{ruled, operand_below, operand_stands, rule_formula}

pub propositional_by : (kind : Kind) (left right : ℕ) (a b : Formula) → may_scope kind ≡ true → (left_use kind ≡ Operand → Propositional a) → (right_use kind ≡ Operand → Propositional b) → Propositional (formula_by kind left right a b)
unfolding Propositional
propositional_by Top left right a b may p q = tt
propositional_by Flag left right a b may p q = tt
propositional_by Code left right a b may p q = absurd (false≢true may)
propositional_by Not left right a b may p q = p refl
propositional_by And left right a b may p q = (p refl, q refl)
propositional_by Or left right a b may p q = (p refl, q refl)
propositional_by Next left right a b may p q = absurd (false≢true may)
propositional_by Until left right a b may p q = absurd (false≢true may)
propositional_by Always left right a b may p q = absurd (false≢true may)
propositional_by Eventually left right a b may p q = absurd (false≢true may)
propositional_by In left right a b may p q = absurd (false≢true may)

scoped_by : (kind : Kind) (left right : ℕ) (a b : Formula) → (left_use kind ≡ Operand → Scoped a) → (right_use kind ≡ Operand → is_in kind ≡ false → Scoped b) → (is_in kind ≡ true → Propositional b) → Scoped (formula_by kind left right a b)
unfolding Scoped
scoped_by Top left right a b p q s = tt
scoped_by Flag left right a b p q s = tt
scoped_by Code left right a b p q s = tt
scoped_by Not left right a b p q s = p refl
scoped_by And left right a b p q s = (p refl, q refl refl)
scoped_by Or left right a b p q s = (p refl, q refl refl)
scoped_by Next left right a b p q s = p refl
scoped_by Until left right a b p q s = (p refl, q refl refl)
scoped_by Always left right a b p q s = p refl
scoped_by Eventually left right a b p q s = p refl
scoped_by In left right a b p q s = (p refl, s refl)

module _ (rows : List Row) (lawful : Ruled rows) where
  -- by the number of rows below
  scope_formula : (n i : ℕ) → i < n → i < length rows → in_scope (home rows i) ≡ true → Propositional (formula_at rows i)
  scope_formula zero i low within scope = absurd (omega arith)
  scope_formula (suc n) i low within scope =
      let r = get_or rows i blank in
      let operand : (side : Bool) → half_use side r.kind ≡ Operand → Propositional (formula_at rows (half side r)) = λ side is.
      let below = operand_below lawful side i is in
      scope_formula n (half side r) (omega arith) (omega arith) (ap in_scope (operand_stands lawful side i is) ∙ given_keeps_scope side r.kind i (home rows i) scope) in
      subst Propositional (sym (rule_formula lawful i within))
      (propositional_by r.kind r.left r.right (formula_at rows r.left) (formula_at rows r.right) (lawful.scopes i within scope) (operand true) (operand false))

  pub in_scope_propositional : (i : ℕ) → i < length rows → in_scope (home rows i) ≡ true → Propositional (formula_at rows i)
  in_scope_propositional i within scope = scope_formula (suc i) i (omega arith) within scope

  outer_formula : (n i : ℕ) → i < n → i < length rows → in_scope (home rows i) ≡ false → Scoped (formula_at rows i)
  outer_formula zero i low within out = absurd (omega arith)
  outer_formula (suc n) i low within out =
      let r = get_or rows i blank in
      let same : (side : Bool) → half_use side r.kind ≡ Operand → is_in r.kind ≡ false → Scoped (formula_at rows (half side r)) = λ side is not_in.
      let below = operand_below lawful side i is in
      outer_formula n (half side r) (omega arith) (omega arith) (ap in_scope (operand_stands lawful side i is ∙ given_same side r.kind i (home rows i) not_in) ∙ out) in
      let body : left_use r.kind ≡ Operand → is_in r.kind ≡ true → Scoped (formula_at rows r.left) = λ is in_row.
      let below = operand_below lawful true i is in
      outer_formula n r.left (omega arith) (omega arith) (ap in_scope (operand_stands lawful true i is ∙ given_new true r.kind i (home rows i) in_row out)) in
      let scope : is_in r.kind ≡ true → Propositional (formula_at rows r.right) = λ in_row.
      let is = in_use false r.kind in_row in
      let below = operand_below lawful false i is in
      in_scope_propositional r.right (omega arith) (ap in_scope (operand_stands lawful false i is ∙ given_new false r.kind i (home rows i) in_row out)) in
      subst Scoped (sym (rule_formula lawful i within))
      (scoped_by r.kind r.left r.right (formula_at rows r.left) (formula_at rows r.right)
      (λ is. ⊎_elim (body is) (same true is) (cases_Bool (is_in r.kind))) (same false) scope)

  pub outer_scoped : (i : ℕ) → i < length rows → in_scope (home rows i) ≡ false → Scoped (formula_at rows i)
  outer_scoped i within out = outer_formula (suc i) i (omega arith) within out

pub last_scoped : (flags codes : ℕ) (rows : List Row) → lawful_rows Rule flags codes rows ≡ true → lawful_rule rows ≡ true → Scoped (formula_at rows (length rows - 1))
last_scoped flags codes rows fine rule =
    let lawful = ruled flags codes rows fine rule in
    let some = lawful.some in
    outer_scoped rows lawful (length rows - 1) (omega arith) (ap in_scope (last_outside rows lawful.tree (length rows - 1) (omega arith)))
