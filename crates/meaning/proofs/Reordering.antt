-- The order of scopes that are piled directly on one another does not count.
use Rattle.std.proofs.Common.{◌≡◌, List, [], ◌∷◌, filter, sym, refl, ap, ◌∙◌, ap₂}
use mathlib.Core.Path.{fun_ext}
use mathlib.Core.Bool.{and_comm}
use Rattle.scales.specs.Lattice.{Lattice}
use Rattle.scales.specs.YesNo.{yes_no, is_yes}
use Rattle.sessions.specs.declared.state.State.{State}
use Rattle.meaning.specs.Formulas.{Formula}
use Rattle.meaning.specs.Meaning.{mark, in_scope, thinned}
use Rattle.meaning.specs.Operators.{next_mark, always_mark, eventually_mark, until_mark}
use Rattle.meaning.specs.Reordered.{Reordered, swapped, same, back, then, in_not, in_and, in_or, in_next, in_until, in_always, in_eventually, in_inside}
use Rattle.meaning.proofs.Gates.{kept_by_both}

thinned_swap : (s t : Formula) (w : List State) → thinned s (thinned t w) ≡ thinned t (thinned s w)
thinned_swap s t w =
    kept_by_both (in_scope t) (in_scope s) w
    ∙ ap (λ p. filter p w) (fun_ext (λ state. and_comm (in_scope t state) (in_scope s state)))
    ∙ sym (kept_by_both (in_scope s) (in_scope t) w)

pub reordered_mark : {M : Type 0} (L : Lattice M) {a b : Formula} → Reordered a b → (w : List State) → mark L a w ≡ mark L b w
unfolding mark
reordered_mark L (swapped {a = a} {s = s} {t = t}) w = ap (mark L a) (thinned_swap s t w)
reordered_mark L same w = refl
reordered_mark L (back r) w = sym (reordered_mark L r w)
reordered_mark L (then r q) w = reordered_mark L r w ∙ reordered_mark L q w
reordered_mark L (in_not r) w = ap L.complement (reordered_mark L r w)
reordered_mark L (in_and r q) w = ap₂ L.meet (reordered_mark L r w) (reordered_mark L q w)
reordered_mark L (in_or r q) w = ap₂ L.join (reordered_mark L r w) (reordered_mark L q w)
reordered_mark L (in_next r) w = ap (λ f. next_mark L f w) (fun_ext (reordered_mark L r))
reordered_mark L (in_until r q) w = ap₂ (λ f g. until_mark L f g w) (fun_ext (reordered_mark L r)) (fun_ext (reordered_mark L q))
reordered_mark L (in_always r) w = ap (λ f. always_mark L f w) (fun_ext (reordered_mark L r))
reordered_mark L (in_eventually r) w = ap (λ f. eventually_mark L f w) (fun_ext (reordered_mark L r))
reordered_mark L (in_inside r q) w =
    ap₂ (λ f p. f (filter p w)) (fun_ext (reordered_mark L r)) (fun_ext (λ state. ap is_yes (reordered_mark yes_no q (state ∷ []))))
