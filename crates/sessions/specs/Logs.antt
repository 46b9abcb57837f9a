-- What a switch log tells: each entry turns one flag over, from the state of its tick on.
use Rattle.std.specs.Prelude.{◌≡◌, ℕ, ◌+◌, ◌%◌, ◌<◌, ◌≤◌, Bool, cond, ◌&&◌, List, [], ◌∷◌, map, length, ◌==◌, nat_le, slice_index}
use Rattle.sessions.specs.States.{no_state, flag_of, flags_at}
use Rattle.sessions.specs.declared.state.State.{State}

-- how many entries with flag p have a tick of i or less
unfoldable pub switches : List ℕ → List ℕ → ℕ → ℕ → ℕ
switches [] flags p i = 0
switches (tick ∷ ticks) [] p i = 0
switches (tick ∷ ticks) (flag ∷ flags) p i = cond (nat_le tick i && flag == p) 1 0 + switches ticks flags p i

abbrev pub odd : ℕ → Bool
odd n = n % 2 == 1

-- State i of a log has flag p exactly when an odd number of entries with flag p have a tick of i or less.
abbrev pub Switched : List ℕ → List ℕ → List State → Type 0
Switched ticks flags w = (i p : ℕ) → i < length w → p < 32 → flag_of p (flags_at w i) ≡ odd (switches ticks flags p i)

-- ticks that never fall
abbrev pub Rising : List ℕ → Type 0
Rising ticks = (j k : ℕ) → j ≤ k → k < length ticks → slice_index ticks j ≤ slice_index ticks k

-- a state of this flag word, with codes of 0
abbrev pub state_of : ℕ → State
state_of word = record { flags = word; codes = no_state.codes }

abbrev pub log_states : List ℕ → List State
log_states words = map state_of words
