-- The states of a session at given positions.
use Rattle.std.specs.Prelude.{ℕ, List, map, slice_index_or}
use Rattle.sessions.specs.States.{no_state}
use Rattle.sessions.specs.declared.state.State.{State}

abbrev pub states_at : List State → List ℕ → List State
states_at w positions = map (λ i. slice_index_or w i no_state) positions
