-- Numbers in bytes, the high byte first. A byte past the end is 0.
use Rattle.std.specs.Prelude.{ℕ, ◌+◌, ◌*◌, List, slice_index}

-- the number of two bytes that stands at a place
abbrev pub word_at : List ℕ → ℕ → ℕ
word_at bytes p = slice_index bytes p * 256 + slice_index bytes (p + 1)

-- the number of four bytes that stands at a place
abbrev pub long_at : List ℕ → ℕ → ℕ
long_at bytes p = word_at bytes p * 65536 + word_at bytes (p + 2)
