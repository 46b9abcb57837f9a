-- What each operator makes of the marks of its operands: meets and joins over the positions of a session. An operand is a
-- function from sessions to marks, and "w from i", w without its first i states, is drop i w.
use Rattle.std.specs.Prelude.{ℕ, zero, suc, cond, List, [], ◌∷◌, length, drop, nat_lt}
use Rattle.scales.specs.Lattice.{Lattice}
use Rattle.sessions.specs.States.{has_flag, code_of}
use Rattle.sessions.specs.declared.state.State.{State}

-- the meet, the join of f at every number below n
unfoldable pub meets : {M : Type 0} → Lattice M → ℕ → (ℕ → M) → M
meets L zero f = L.top
meets L (suc n) f = L.meet (f 0) (meets L n (λ i. f (suc i)))

unfoldable pub joins : {M : Type 0} → Lattice M → ℕ → (ℕ → M) → M
joins L zero f = L.bottom
joins L (suc n) f = L.join (f 0) (joins L n (λ i. f (suc i)))

module _ {M : Type 0} (L : Lattice M) where
  abbrev pub flag_mark : ℕ → List State → M
  flag_mark p [] = L.bottom
  flag_mark p (state ∷ w) = cond (has_flag p state) L.top L.bottom

  abbrev pub code_mark : ℕ → List State → M
  code_mark k [] = L.bottom
  code_mark k (state ∷ w) = L.reading (code_of k state)

  abbrev pub next_mark : (List State → M) → List State → M
  next_mark a w = cond (nat_lt 1 (length w)) (a (drop 1 w)) L.bottom

  abbrev pub always_mark : (List State → M) → List State → M
  always_mark a w = meets L (length w) (λ i. a (drop i w))

  abbrev pub eventually_mark : (List State → M) → List State → M
  eventually_mark a w = joins L (length w) (λ i. a (drop i w))

  abbrev pub until_mark : (List State → M) → (List State → M) → List State → M
  until_mark a b w = joins L (length w) (λ i. L.meet (b (drop i w)) (meets L i (λ j. a (drop j w))))
