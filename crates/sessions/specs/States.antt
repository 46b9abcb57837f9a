-- The flags and codes of a state.
use Rattle.std.specs.Prelude.{◌≡◌, ℕ, ◌/◌, ◌%◌, ◌^◌, Bool, cond, ◌&&◌, List, [], ◌∷◌, get_or, ℤ, pos, ◌==◌, nat_lt, slice_index_or}
use Rattle.sessions.specs.declared.state.State.{State}

-- flag p is bit p of a word of 32 bits, bit 0 being the lowest
abbrev pub flag_of : ℕ → ℕ → Bool
flag_of p word = nat_lt p 32 && word / 2 ^ p % 2 == 1

abbrev pub has_flag : ℕ → State → Bool
has_flag p state = flag_of p state.flags

-- code k, and 0 where k is above 3
abbrev pub code_of : ℕ → State → ℤ
code_of k state = cond (nat_lt k 4) (slice_index_or state.codes k (pos 0)) (pos 0)

-- what stands where a session has no state
abbrev pub no_state : State
no_state = record { flags = 0; codes = pos 0 ∷ pos 0 ∷ pos 0 ∷ pos 0 ∷ [] }

-- the flag word and code k of the state at position i, 0 past the end
abbrev pub flags_at : List State → ℕ → ℕ
flags_at w i = (get_or w i no_state).flags

abbrev pub code_at : List State → ℕ → ℕ → ℤ
code_at w i k = code_of k (slice_index_or w i no_state)

-- two states that have the same flags and the same codes
pub record Alike (s t : State) : Type 0 where
  pub flags : s.flags ≡ t.flags
  pub codes : (k : ℕ) → code_of k s ≡ code_of k t
