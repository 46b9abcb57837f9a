-- What is answered to the question whether a state is in a scope of a rule.
use Rattle.std.specs.Prelude.{◌≡◌, ℕ, ◌-◌, Bool, true, cond, List, [], ◌∷◌, length, get_or, Some, None, Option, nat_lt, slice_index_or}
use Rattle.rows.specs.Kinds.{is_in}
use Rattle.rows.specs.Rows.{blank}
use Rattle.rows.specs.declared.row.Row.{Row}
use Rattle.sessions.specs.States.{no_state}
use Rattle.sessions.specs.declared.state.State.{State}
use Rattle.meaning.specs.Formulas.{Formula, formula_at}
use Rattle.meaning.specs.Logic.{Holds}
use Rattle.meaning.specs.Meaning.{in_scope}

-- what the last row of a table says
abbrev pub whole : List Row → Formula
whole rows = formula_at rows (length rows - 1)

-- the scope of in row k
abbrev pub scope_of : List Row → ℕ → Formula
scope_of rows k = formula_at rows (get_or rows k blank).right

-- whether a state is in the scope of in row k, if there is such an in row
abbrev pub scope_answer : List Row → ℕ → State → Option Bool
scope_answer rows k state = cond (is_in (get_or rows k blank).kind) (Some (in_scope (scope_of rows k) state)) None

-- the same of the state at a position of a session, if there is such a state
abbrev pub answer_at : List Row → ℕ → List State → ℕ → Option Bool
answer_at rows k w i = cond (nat_lt i (length w)) (scope_answer rows k (slice_index_or w i no_state)) None

-- where the answer is yes, the scope holds of that state alone, and the other way round
abbrev pub HoldsAlone : List Row → ℕ → List State → ℕ → Option Bool → Type 0
HoldsAlone rows k w i None = Unit {0}
HoldsAlone rows k w i (Some b) =
    (b ≡ true → Holds (scope_of rows k) (slice_index_or w i no_state ∷ [])) × (Holds (scope_of rows k) (slice_index_or w i no_state ∷ []) → b ≡ true)
