-- Satisfaction of formulas by finite traces, in the words of finite-trace temporal logic.
use Rattle.std.specs.Prelude.{◌≡◌, ℕ, ◌<◌, true, ◌⊎◌, List, [], ◌∷◌, length, drop, pos, ◌<ℤ◌}
use Rattle.rows.specs.declared.row.Row.{Row}
use Rattle.scales.specs.YesNo.{yes_no}
use Rattle.scales.specs.declared.yes_no.YesNo.TheVariants.{Yes}
use Rattle.sessions.specs.States.{has_flag, code_of}
use Rattle.sessions.specs.declared.state.State.{State}
use Rattle.meaning.specs.Formulas.{Formula, top, flag, code, not, and, or, next, until, always, eventually, inside, formula_at}
use Rattle.meaning.specs.Meaning.{mark}

-- v is the part of w that P holds of, in order
pub data Part (P : State → Type 0) : List State → List State → Type 0 where
  none : Part P [] []
  kept : {state : State} {w v : List State} → P state → Part P w v → Part P (state ∷ w) (state ∷ v)
  left : {state : State} {w v : List State} → (P state → ⊥) → Part P w v → Part P (state ∷ w) v

-- P holds of the first state, and there is one
abbrev pub First : (State → Type 0) → List State → Type 0
First P [] = ⊥
First P (state ∷ w) = P state

-- A formula holds of a session. Next is strong: it fails on the last state. A formula inside a scope holds of the session
-- thinned to the states of which, each alone, the scope holds.
unfoldable pub Holds : Formula → List State → Type 0
Holds top w = Unit {0}
Holds (flag p) w = First (λ state. has_flag p state ≡ true) w
Holds (code k) w = First (λ state. pos 0 <ℤ code_of k state) w
Holds (not a) w = Holds a w → ⊥
Holds (and a b) w = Holds a w × Holds b w
Holds (or a b) w = Holds a w ⊎ Holds b w
Holds (next a) w = (1 < length w) × Holds a (drop 1 w)
Holds (until a b) w = (i : ℕ) × (i < length w) × Holds b (drop i w) × ((j : ℕ) → j < i → Holds a (drop j w))
Holds (always a) w = (i : ℕ) → i < length w → Holds a (drop i w)
Holds (eventually a) w = (i : ℕ) × (i < length w) × Holds a (drop i w)
Holds (inside a s) w = (v : List State) × Part (λ state. Holds s (state ∷ [])) w v × Holds a v

-- a formula holds of a session exactly where its yes/no mark there is yes
abbrev pub Agrees : Formula → List State → Type 0
Agrees formula w = (Holds formula w → mark yes_no formula w ≡ Yes) × (mark yes_no formula w ≡ Yes → Holds formula w)

-- so does every row of a table
abbrev pub Satisfaction : List Row → List State → Type 0
Satisfaction rows w = (i : ℕ) → Agrees (formula_at rows i) w
