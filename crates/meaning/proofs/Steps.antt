-- What each operator is on a session with one more state in front, and on the empty session.
use Rattle.std.proofs.Common.{◌≡◌, ℕ, zero, suc, List, [], ◌∷◌, length, drop, sym, refl, ap, ◌∙◌, ap₂, arith}
use mathlib.Core.Path.{fun_ext}
use Rattle.std.proofs.lemmas.Bool.{cond-true, lt-ltb}
use Rattle.scales.specs.Lattice.{Lattice, Laws}
use Rattle.sessions.specs.declared.state.State.{State}
use Rattle.meaning.specs.Operators.{meets, joins, next_mark, always_mark, eventually_mark, until_mark}
use Rattle.meaning.proofs.Lattices.{meet_top_right, meet_bottom_right, meet_swap}

module _ {M : Type 0} (L : Lattice M) where
  pub always_none : (a : List State → M) → always_mark L a [] ≡ L.top
  unfolding meets
  always_none a = refl

  pub always_step : (a : List State → M) (state : State) (w : List State) → always_mark L a (state ∷ w) ≡ L.meet (a (state ∷ w)) (always_mark L a w)
  unfolding meets
  always_step a state w = refl

  pub eventually_none : (a : List State → M) → eventually_mark L a [] ≡ L.bottom
  unfolding joins
  eventually_none a = refl

  pub eventually_step : (a : List State → M) (state : State) (w : List State) → eventually_mark L a (state ∷ w) ≡ L.join (a (state ∷ w)) (eventually_mark L a w)
  unfolding joins
  eventually_step a state w = refl

  pub next_none : (a : List State → M) → next_mark L a [] ≡ L.bottom
  next_none a = refl

  pub next_one : (a : List State → M) (state : State) → next_mark L a (state ∷ []) ≡ L.bottom
  next_one a state = refl

  pub next_step : (a : List State → M) (s t : State) (w : List State) → next_mark L a (s ∷ t ∷ w) ≡ a (t ∷ w)
  next_step a s t w = cond-true _ _ _ (lt-ltb 1 (suc (suc (length w))) (omega arith))

  pub until_none : (a b : List State → M) → until_mark L a b [] ≡ L.bottom
  unfolding joins
  until_none a b = refl

  -- a meet with each mark is a meet with their join
  joins_meet : Laws L → (a : M) (n : ℕ) (f : ℕ → M) → joins L n (λ i. L.meet a (f i)) ≡ L.meet a (joins L n f)
  unfolding joins
  joins_meet laws a zero f = sym (meet_bottom_right L laws a)
  joins_meet laws a (suc n) f =
      ap (L.join (L.meet a (f 0))) (joins_meet laws a n (λ i. f (suc i)))
      ∙ sym (laws.meet_over_join a (f 0) (joins L n (λ i. f (suc i))))

  pub until_step : Laws L → (a b : List State → M) (state : State) (w : List State) → until_mark L a b (state ∷ w) ≡ L.join (b (state ∷ w)) (L.meet (a (state ∷ w)) (until_mark L a b w))
  unfolding meets joins
  until_step laws a b state w =
      ap₂ L.join (meet_top_right L laws (b (state ∷ w)))
      (ap (joins L (length w)) (fun_ext (λ i. meet_swap L laws (b (drop i w)) (a (state ∷ w)) (meets L i (λ j. a (drop j w)))))
      ∙ joins_meet laws (a (state ∷ w)) (length w) (λ i. L.meet (b (drop i w)) (meets L i (λ j. a (drop j w)))))
