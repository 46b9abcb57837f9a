-- What is answered of a row number and a state.
use Rattle.std.proofs.Common.{◌≡◌, ℕ, zero, suc, ◌<◌, ◌≤◌, Bool, true, false, cond, List, [], ◌∷◌, length, get_or, Some, None, Option, sym, refl, ap, ◌∙◌, subst, arith, lt-ltb}
use Rattle.std.proofs.lemmas.Bool.{and_parts}
use Rattle.rows.specs.Kinds.{is_in, may_scope}
use Rattle.rows.specs.Reach.{Operand, Reached, here, down}
use Rattle.rows.specs.Rows.{blank}
use Rattle.rows.specs.declared.row.Row.{Row}
use Rattle.rows.specs.declared.kind.HalfUse.TheVariants.{Operand as OperandUse}
use Rattle.rows.proofs.Halves.{half, half_use, in_use}
use Rattle.rows.proofs.Operands.{reached_low}
use Rattle.rows.proofs.Parents.{in_within}
use Rattle.rows.proofs.Standing.{scoped}
use Rattle.tables.specs.Lawful.{rows_fault, lawful_rows}
use Rattle.tables.specs.declared.form.Form.TheVariants.{Rule}
use Rattle.tables.proofs.Sound.{none_is}
use Rattle.tables.proofs.Trees.{tree_below}
use Rattle.scales.specs.YesNo.{yes_no, is_yes, opposite, both, either}
use Rattle.scales.specs.declared.yes_no.YesNo.TheVariants.{No, Yes}
use Rattle.sessions.specs.States.{no_state, flag_of}
use Rattle.sessions.specs.declared.state.State.{State}
use Rattle.meaning.specs.Formulas.{Formula, top, flag, code, not, and, or, next, until, always, eventually, inside, formula_at}
use Rattle.meaning.specs.Gated.{Propositional}
use Rattle.meaning.specs.Meaning.{mark, in_scope}
use Rattle.meaning.proofs.Formulas.{formula_row}
use Rattle.meaning.proofs.Matches.{is_yes_true}
use Rattle.meaning.proofs.Satisfaction.{agrees}
use Rattle.scopes.specs.Answered.{scope_of, scope_answer, answer_at, HoldsAlone}
use Rattle.scopes.specs.Ruled.{Ruled, ScopeRoot, all_may_scope}
use Rattle.scopes.proofs.Rules.{operand_below}
use Rattle.scopes.proofs.Evaluated.{operand_root}
use Rattle.scopes.proofs.Scopes.{propositional_by}

module _ (rows : List Row) (ruled : Ruled rows) (k : ℕ) (in_row : is_in (get_or rows k blank).kind ≡ true) where
  -- the right half of an in row is the root of its scope
  root_within : (get_or rows k blank).right < length rows
  root_within =
      let below = operand_below ruled false k (in_use false (get_or rows k blank).kind in_row) in
      let within = in_within rows k in_row in
      omega arith

  pub rule_root : ScopeRoot rows (get_or rows k blank).right
  rule_root = record {
    within = root_within;
    below = ruled.tree.below;
    kinds = λ i reached.
        let within : i < length rows = omega (arith, reached_low rows ruled.tree (get_or rows k blank).right i reached, root_within) in
        ruled.scopes i within ((scoped rows ruled.tree i within).1 k (in_row, reached));
  }

-- the last of rows that are all of kinds that may stand in a scope
each_may : (rows : List Row) (i : ℕ) → all_may_scope rows ≡ true → i < length rows → may_scope (get_or rows i blank).kind ≡ true
unfolding all_may_scope
each_may [] i all within = absurd (omega arith)
each_may (row ∷ rows) zero all within = (and_parts (may_scope row.kind) (all_may_scope rows) all).0
each_may (row ∷ rows) (suc i) all within = each_may rows i (and_parts (may_scope row.kind) (all_may_scope rows) all).1 (omega arith)

pub scope_root : (flags codes : ℕ) (rows : List Row) → lawful_rows Rule flags codes rows ≡ true → all_may_scope rows ≡ true → (k : ℕ) → k < length rows → ScopeRoot rows k
unfolding lawful_rows
scope_root flags codes rows fine all k within =
    let below = tree_below Rule flags codes rows (none_is (rows_fault Rule flags codes rows) fine) in
    record { within = within; below = below; kinds = λ i reached. each_may rows i all (omega (arith, low below i reached)) }
  where
    low : ((j i : ℕ) → Operand rows j i → i < j) → (i : ℕ) → Reached rows k i → i ≤ k
    low below _ here = omega arith
    low below _ (down j i reached operand) = omega (arith, low below j reached, below j i operand)

-- a scope is a propositional formula: by the number of rows below
propositional : (rows : List Row) (n k : ℕ) → k < n → ScopeRoot rows k → Propositional (formula_at rows k)
propositional rows zero k low root = absurd (omega arith)
propositional rows (suc n) k low root =
    let r = get_or rows k blank in
    let operand : (side : Bool) → half_use side r.kind ≡ OperandUse → Propositional (formula_at rows (half side r)) = λ side is.
    let sub = operand_root rows k (half side r) k root side refl is refl refl in
    propositional rows n (half side r) (omega (arith, sub.0)) sub.1 in
    subst Propositional (sym (formula_row rows k root.within (root.below k)))
    (propositional_by r.kind r.left r.right (formula_at rows r.left) (formula_at rows r.right) (root.kinds k here) (operand true) (operand false))

pub root_propositional : (rows : List Row) (k : ℕ) → ScopeRoot rows k → Propositional (formula_at rows k)
root_propositional rows k root = propositional rows (suc k) k (omega arith) root

-- a propositional formula asks for flags only
same_flags : (f : Formula) → Propositional f → (s t : State) → s.flags ≡ t.flags → mark yes_no f (s ∷ []) ≡ mark yes_no f (t ∷ [])
unfolding mark Propositional
same_flags top prop s t same = refl
same_flags (flag p) prop s t same = ap (λ word. cond (flag_of p word) Yes No) same
same_flags (code k) prop s t same = absurd prop
same_flags (not a) prop s t same = ap opposite (same_flags a prop s t same)
same_flags (and a b) prop s t same = (λ d. both (same_flags a prop.0 s t same d) (same_flags b prop.1 s t same d))
same_flags (or a b) prop s t same = (λ d. either (same_flags a prop.0 s t same d) (same_flags b prop.1 s t same d))
same_flags (next a) prop s t same = absurd prop
same_flags (until a b) prop s t same = absurd prop
same_flags (always a) prop s t same = absurd prop
same_flags (eventually a) prop s t same = absurd prop
same_flags (inside a b) prop s t same = absurd prop

pub same_scope : (rows : List Row) (k : ℕ) → ScopeRoot rows k → (s t : State) → s.flags ≡ t.flags → in_scope (formula_at rows k) s ≡ in_scope (formula_at rows k) t
same_scope rows k root s t same = ap is_yes (same_flags (formula_at rows k) (root_propositional rows k root) s t same)

pub same_answer : (rows : List Row) → Ruled rows → (k : ℕ) (s t : State) → s.flags ≡ t.flags → scope_answer rows k s ≡ scope_answer rows k t
same_answer rows ruled k s t same = go (is_in (get_or rows k blank).kind) refl
  where
    go : (b : Bool) → is_in (get_or rows k blank).kind ≡ b → cond b (Some (in_scope (scope_of rows k) s)) None ≡ cond b (Some (in_scope (scope_of rows k) t)) None
    go true is = ap Some (same_scope rows (get_or rows k blank).right (rule_root rows ruled k is) s t same)
    go false is = refl

-- an answer at a position of the session, and what it says in the words of the logic
pub answer_here : (rows : List Row) (k : ℕ) (w : List State) (i : ℕ) → i < length w → answer_at rows k w i ≡ scope_answer rows k (get_or w i no_state)
answer_here rows k w i within = ap (λ b. cond b (scope_answer rows k (get_or w i no_state)) None) (lt-ltb i (length w) within)

pub holds_alone : (rows : List Row) (k : ℕ) (w : List State) (i : ℕ) (r : Option Bool) → r ≡ scope_answer rows k (get_or w i no_state) → HoldsAlone rows k w i r
holds_alone rows k w i None e = tt
holds_alone rows k w i (Some b) e =
    let f = scope_of rows k in
    let state = get_or w i no_state in
    let same : b ≡ in_scope f state = go (is_in (get_or rows k blank).kind) e in
    let test = is_yes_true (mark yes_no f (state ∷ [])) in (
      (λ is. (agrees f (state ∷ [])).1 (test.0 (sym same ∙ is))),
      (λ holds. same ∙ test.1 ((agrees f (state ∷ [])).0 holds)),
    )
  where
    go : (c : Bool) → Some b ≡ cond c (Some (in_scope (scope_of rows k) (get_or w i no_state))) None → b ≡ in_scope (scope_of rows k) (get_or w i no_state)
    go true e = cc
    go false e = let z : ◌≡◌ {A = ℕ} 0 1 = cc in absurd (omega arith)
