-- The format of a sheet: the number of states, their flag words, and their codes. A byte past the end is 0.
use Rattle.std.specs.Prelude.{ℕ, ◌+◌, ◌*◌, List, [], ◌∷◌, map, ℤ, slice_index}
use Rattle.std.specs.Int.{w8}
use Rattle.std.proofs.Common.{to_z}
use Rattle.std.specs.List.{range_with_len}
use Rattle.big_endian.specs.Numbers.{word_at, long_at}
use Rattle.sessions.specs.declared.state.State.{State}

abbrev pub sheet_count : List ℕ → ℕ
sheet_count bytes = word_at bytes 0

-- the flag word of state i
abbrev pub sheet_flags : List ℕ → ℕ → ℕ
sheet_flags bytes i = long_at bytes (2 + 4 * i)

-- code k of state i, one byte in two's complement
abbrev pub sheet_code : List ℕ → ℕ → ℕ → ℤ
sheet_code bytes i k = to_z w8 (slice_index bytes (2 + 4 * sheet_count bytes + 4 * i + k))

abbrev pub sheet_state : List ℕ → ℕ → State
sheet_state bytes i = record {
  flags = sheet_flags bytes i;
  codes = sheet_code bytes i 0 ∷ sheet_code bytes i 1 ∷ sheet_code bytes i 2 ∷ sheet_code bytes i 3 ∷ [];
}

-- the states that a sheet of these bytes tells
unfoldable pub sheet_states : List ℕ → List State
sheet_states bytes = map (sheet_state bytes) (range_with_len 0 (sheet_count bytes))
