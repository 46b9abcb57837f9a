-- A gated formula means on a session what the formula means on the states in the gate.
use Rattle.std.proofs.Common.{◌≡◌, Bool, true, false, cond, List, [], ◌∷◌, filter, sym, refl, ap, ◌∙◌, ap₂}
use mathlib.Core.Path.{fun_ext}
use Rattle.scales.specs.Lattice.{Lattice, Laws}
use Rattle.sessions.specs.declared.state.State.{State}
use Rattle.meaning.specs.Formulas.{Formula, top, flag, code, not, and, or, next, until, always, eventually, inside}
use Rattle.meaning.specs.Gated.{gated, plain, Propositional, Scoped}
use Rattle.meaning.specs.Meaning.{mark, in_scope, thinned}
use Rattle.meaning.specs.Operators.{meets, joins, flag_mark, code_mark, next_mark, always_mark, eventually_mark, until_mark}
use Rattle.meaning.proofs.Gates.{gate_mark, thinned_and}
use Rattle.meaning.proofs.Lattices.{sharp, meet_bottom, join_top, join_bottom_right, complement_top, complement_bottom}
use Rattle.meaning.proofs.Steps.{always_step, eventually_step, next_none, next_one, next_step, until_none, until_step}

-- a session's mark, and bottom where it is empty
abbrev held : {M : Type 0} → Lattice M → (List State → M) → List State → M
held L a [] = L.bottom
held L a (state ∷ w) = a (state ∷ w)

-- next is the mark of the rest, if there is a rest
next_rest : {M : Type 0} (L : Lattice M) (a : List State → M) (state : State) (w : List State) → next_mark L a (state ∷ w) ≡ held L a w
next_rest L a state [] = next_one L a state
next_rest L a state (t ∷ w) = next_step L a state t w

-- With a gate G: A or outside the gate, A and in the gate, and up to the first state in the gate and there A.
module _ {M : Type 0} (L : Lattice M) (G : List State → M) where
  abbrev or_out : (List State → M) → List State → M
  or_out A v = L.join (L.complement (G v)) (A v)

  abbrev and_in : (List State → M) → List State → M
  and_in A v = L.meet (G v) (A v)

  abbrev at_first : (List State → M) → List State → M
  at_first A w = until_mark L (λ v. L.complement (G v)) (and_in A) w

-- The gate is top at each state that passes the test p, and bottom at each other. A' is on a session what A is on the states
-- that pass.
module _ {M : Type 0} (L : Lattice M) (laws : Laws L) (p : State → Bool) (G : List State → M) (gate : (state : State) (w : List State) → G (state ∷ w) ≡ sharp L (p state)) where
  always_gated : (A A' : List State → M) → ((w : List State) → A' w ≡ A (filter p w)) → (w : List State) → always_mark L (or_out L G A') w ≡ always_mark L A (filter p w)
  unfolding meets
  always_gated A A' same [] = refl
  always_gated A A' same (state ∷ w) =
      always_step L (or_out L G A') state w
      ∙ ap₂ L.meet (ap₂ (λ g a. L.join (L.complement g) a) (gate state w) (same (state ∷ w))) (always_gated A A' same w)
      ∙ go (p state) (filter p w)
    where
      go : (b : Bool) (v : List State) → L.meet (L.join (L.complement (sharp L b)) (A (cond b (state ∷ v) v))) (always_mark L A v) ≡ always_mark L A (cond b (state ∷ v) v)
      go true v = rw (complement_top L laws, laws.join_bottom)
      go false v = rw (complement_bottom L laws, join_top L laws, laws.meet_top)

  eventually_gated : (A A' : List State → M) → ((w : List State) → A' w ≡ A (filter p w)) → (w : List State) → eventually_mark L (and_in L G A') w ≡ eventually_mark L A (filter p w)
  unfolding joins
  eventually_gated A A' same [] = refl
  eventually_gated A A' same (state ∷ w) =
      eventually_step L (and_in L G A') state w
      ∙ ap₂ L.join (ap₂ L.meet (gate state w) (same (state ∷ w))) (eventually_gated A A' same w)
      ∙ go (p state) (filter p w)
    where
      go : (b : Bool) (v : List State) → L.join (L.meet (sharp L b) (A (cond b (state ∷ v) v))) (eventually_mark L A v) ≡ eventually_mark L A (cond b (state ∷ v) v)
      go true v = rw laws.meet_top
      go false v = rw (meet_bottom L laws, laws.join_bottom)

  until_gated : (A A' B B' : List State → M) → ((w : List State) → A' w ≡ A (filter p w)) → ((w : List State) → B' w ≡ B (filter p w)) → (w : List State) → until_mark L (or_out L G A') (and_in L G B') w ≡ until_mark L A B (filter p w)
  unfolding joins
  until_gated A A' B B' same_a same_b [] = refl
  until_gated A A' B B' same_a same_b (state ∷ w) =
      until_step L laws (or_out L G A') (and_in L G B') state w
      ∙ ap₂ L.join (ap₂ L.meet (gate state w) (same_b (state ∷ w))) (ap₂ L.meet (ap₂ (λ g a. L.join (L.complement g) a) (gate state w) (same_a (state ∷ w))) (until_gated A A' B B' same_a same_b w))
      ∙ go (p state) (filter p w)
    where
      go : (b : Bool) (v : List State) → L.join (L.meet (sharp L b) (B (cond b (state ∷ v) v))) (L.meet (L.join (L.complement (sharp L b)) (A (cond b (state ∷ v) v))) (until_mark L A B v)) ≡ until_mark L A B (cond b (state ∷ v) v)
      go true v = rw (laws.meet_top, complement_top L laws, laws.join_bottom) (sym (until_step L laws A B state v))
      go false v = rw (meet_bottom L laws, complement_bottom L laws, join_top L laws, laws.meet_top, laws.join_bottom)

  -- what C is on the states that pass, if C is bottom on the empty session, and A at a state that passes is C there
  first_gated : (A C : List State → M) → C [] ≡ L.bottom → ((state : State) (w : List State) → p state ≡ true → A (state ∷ w) ≡ C (state ∷ filter p w)) → (w : List State) → at_first L G A w ≡ C (filter p w)
  first_gated A C empty first [] = until_none L (λ v. L.complement (G v)) (and_in L G A) ∙ sym empty
  first_gated A C empty first (state ∷ w) =
      until_step L laws (λ v. L.complement (G v)) (and_in L G A) state w
      ∙ ap₂ L.join (ap (λ g. L.meet g (A (state ∷ w))) (gate state w)) (ap₂ (λ g u. L.meet (L.complement g) u) (gate state w) (first_gated A C empty first w))
      ∙ go (p state) (first state w)
    where
      go : (b : Bool) → (b ≡ true → A (state ∷ w) ≡ C (state ∷ filter p w)) → L.join (L.meet (sharp L b) (A (state ∷ w))) (L.meet (L.complement (sharp L b)) (C (filter p w))) ≡ C (cond b (state ∷ filter p w) (filter p w))
      go true here = rw (laws.meet_top, complement_top L laws, meet_bottom L laws, join_bottom_right L laws) (here refl)
      go false here = rw (meet_bottom L laws, complement_bottom L laws, laws.meet_top, laws.join_bottom)

  held_gated : (A A' : List State → M) → ((w : List State) → A' w ≡ A (filter p w)) → (w : List State) → at_first L G A' w ≡ held L A (filter p w)
  held_gated A A' same = first_gated A' (held L A) refl (λ state w here. same (state ∷ w) ∙ ap (λ b. A (cond b (state ∷ filter p w) (filter p w))) here)

  next_gated : (A A' : List State → M) → ((w : List State) → A' w ≡ A (filter p w)) → (w : List State) → at_first L G (next_mark L (at_first L G A')) w ≡ next_mark L A (filter p w)
  next_gated A A' same =
      first_gated (next_mark L (at_first L G A')) (next_mark L A) (next_none L A)
      (λ state w here. next_rest L (at_first L G A') state w ∙ rest w ∙ sym (next_rest L A state (filter p w)))
    where
      rest : (w : List State) → held L (at_first L G A') w ≡ held L A (filter p w)
      rest [] = refl
      rest (state ∷ w) = held_gated A A' same (state ∷ w)

pub gated_mark : {M : Type 0} (L : Lattice M) → Laws L → (g a : Formula) → Propositional g → Scoped a → (w : List State) → mark L (gated g a) w ≡ mark L a (thinned g w)
unfolding mark gated Propositional Scoped
gated_mark L laws g top prop scoped w = refl
gated_mark L laws g (flag p) prop scoped w = first_gated L laws (in_scope g) (mark L g) (gate_mark L laws g prop) (flag_mark L p) (flag_mark L p) refl (λ state w here. refl) w
gated_mark L laws g (code k) prop scoped w = first_gated L laws (in_scope g) (mark L g) (gate_mark L laws g prop) (code_mark L k) (code_mark L k) refl (λ state w here. refl) w
gated_mark L laws g (not a) prop scoped w = ap L.complement (gated_mark L laws g a prop scoped w)
gated_mark L laws g (and a b) prop scoped w = ap₂ L.meet (gated_mark L laws g a prop scoped.0 w) (gated_mark L laws g b prop scoped.1 w)
gated_mark L laws g (or a b) prop scoped w = ap₂ L.join (gated_mark L laws g a prop scoped.0 w) (gated_mark L laws g b prop scoped.1 w)
gated_mark L laws g (next a) prop scoped w = next_gated L laws (in_scope g) (mark L g) (gate_mark L laws g prop) (mark L a) (mark L (gated g a)) (gated_mark L laws g a prop scoped) w
gated_mark L laws g (until a b) prop scoped w = until_gated L laws (in_scope g) (mark L g) (gate_mark L laws g prop) (mark L a) (mark L (gated g a)) (mark L b) (mark L (gated g b)) (gated_mark L laws g a prop scoped.0) (gated_mark L laws g b prop scoped.1) w
gated_mark L laws g (always a) prop scoped w = always_gated L laws (in_scope g) (mark L g) (gate_mark L laws g prop) (mark L a) (mark L (gated g a)) (gated_mark L laws g a prop scoped) w
gated_mark L laws g (eventually a) prop scoped w = eventually_gated L laws (in_scope g) (mark L g) (gate_mark L laws g prop) (mark L a) (mark L (gated g a)) (gated_mark L laws g a prop scoped) w
gated_mark L laws g (inside a s) prop scoped w = gated_mark L laws (and g s) a (prop, scoped.1) scoped.0 w ∙ ap (mark L a) (thinned_and g s w)

pub plain_mark : {M : Type 0} (L : Lattice M) → Laws L → (a : Formula) → Scoped a → (w : List State) → mark L (plain a) w ≡ mark L a w
unfolding mark plain Scoped
plain_mark L laws top scoped w = refl
plain_mark L laws (flag p) scoped w = refl
plain_mark L laws (code k) scoped w = refl
plain_mark L laws (not a) scoped w = ap L.complement (plain_mark L laws a scoped w)
plain_mark L laws (and a b) scoped w = ap₂ L.meet (plain_mark L laws a scoped.0 w) (plain_mark L laws b scoped.1 w)
plain_mark L laws (or a b) scoped w = ap₂ L.join (plain_mark L laws a scoped.0 w) (plain_mark L laws b scoped.1 w)
plain_mark L laws (next a) scoped w = ap (λ f. next_mark L f w) (fun_ext (plain_mark L laws a scoped))
plain_mark L laws (until a b) scoped w = ap₂ (λ f g. until_mark L f g w) (fun_ext (plain_mark L laws a scoped.0)) (fun_ext (plain_mark L laws b scoped.1))
plain_mark L laws (always a) scoped w = ap (λ f. always_mark L f w) (fun_ext (plain_mark L laws a scoped))
plain_mark L laws (eventually a) scoped w = ap (λ f. eventually_mark L f w) (fun_ext (plain_mark L laws a scoped))
plain_mark L laws (inside a s) scoped w = gated_mark L laws s a scoped.1 scoped.0 w
