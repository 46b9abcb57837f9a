-- A propositional formula is top or bottom on every scale, by its yes/no mark on the first state alone.
use Rattle.std.proofs.Common.{◌≡◌, Bool, true, false, cond, ◌&&◌, List, [], ◌∷◌, filter, sym, refl, ap, ◌∙◌, ap₂}
use mathlib.Core.Path.{fun_ext}
use Rattle.scales.specs.Lattice.{Lattice, Laws}
use Rattle.scales.specs.YesNo.{yes_no}
use Rattle.sessions.specs.States.{has_flag}
use Rattle.sessions.specs.declared.state.State.{State}
use Rattle.meaning.specs.Formulas.{Formula, top, flag, code, not, and, or, next, until, always, eventually, inside}
use Rattle.meaning.specs.Gated.{Propositional}
use Rattle.meaning.specs.Meaning.{mark, in_scope, thinned}
use Rattle.scales.proofs.Marks.{is_yes_answer, is_yes_opposite, is_yes_both, is_yes_either}
use Rattle.meaning.proofs.Lattices.{sharp, sharp_not, sharp_and, sharp_or}

module _ {M : Type 0} (L : Lattice M) (laws : Laws L) where
  pub gate_mark : (g : Formula) → Propositional g → (state : State) (w : List State) → mark L g (state ∷ w) ≡ cond (in_scope g state) L.top L.bottom
  unfolding mark Propositional
  gate_mark top prop state w = refl
  gate_mark (flag p) prop state w = ap (sharp L) (sym (is_yes_answer (has_flag p state)))
  gate_mark (code k) prop state w = absurd prop
  gate_mark (not a) prop state w =
      ap L.complement (gate_mark a prop state w)
      ∙ sharp_not L laws (in_scope a state)
      ∙ ap (sharp L) (sym (is_yes_opposite (mark yes_no a (state ∷ []))))
  gate_mark (and a b) prop state w =
      ap₂ L.meet (gate_mark a prop.0 state w) (gate_mark b prop.1 state w)
      ∙ sharp_and L laws (in_scope a state) (in_scope b state)
      ∙ ap (sharp L) (sym (is_yes_both (mark yes_no a (state ∷ [])) (mark yes_no b (state ∷ []))))
  gate_mark (or a b) prop state w =
      ap₂ L.join (gate_mark a prop.0 state w) (gate_mark b prop.1 state w)
      ∙ sharp_or L laws (in_scope a state) (in_scope b state)
      ∙ ap (sharp L) (sym (is_yes_either (mark yes_no a (state ∷ [])) (mark yes_no b (state ∷ []))))
  gate_mark (next a) prop state w = absurd prop
  gate_mark (until a b) prop state w = absurd prop
  gate_mark (always a) prop state w = absurd prop
  gate_mark (eventually a) prop state w = absurd prop
  gate_mark (inside a s) prop state w = absurd prop

pub in_scope_and : (g s : Formula) (state : State) → in_scope (and g s) state ≡ (in_scope g state && in_scope s state)
unfolding mark
in_scope_and g s state = is_yes_both (mark yes_no g (state ∷ [])) (mark yes_no s (state ∷ []))

-- to keep by one test, and then by another, is to keep by both
pub kept_by_both : {X : Type 0} (p q : X → Bool) (w : List X) → filter q (filter p w) ≡ filter (λ x. p x && q x) w
kept_by_both p q [] = refl
kept_by_both {X} p q (x ∷ w) = go (p x) (kept_by_both p q w)
  where
    go : (b : Bool) {v : List X} → filter q (filter p w) ≡ v → filter q (cond b (x ∷ filter p w) (filter p w)) ≡ cond (b && q x) (x ∷ v) v
    go true e = ap (λ v. cond (q x) (x ∷ v) v) e
    go false e = e

pub thinned_and : (g s : Formula) (w : List State) → thinned (and g s) w ≡ thinned s (thinned g w)
thinned_and g s w =
    ap (λ p. filter p w) (fun_ext (in_scope_and g s))
    ∙ sym (kept_by_both (in_scope g) (in_scope s) w)
