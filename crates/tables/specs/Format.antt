-- The format of a table, from its bytes to its rows.
use Rattle.std.specs.Prelude.{ℕ, ◌+◌, ◌*◌, ◌/◌, ◌%◌, Bool, true, not, List, [], ◌∷◌, ◌++◌, map, length, drop, slice_index}
use Rattle.std.specs.List.{range_with_len, flat_map}
use Rattle.std.specs.Option.{unwrap_or}
use Rattle.rows.specs.Kinds.{number, kind_of, is_in}
use Rattle.rows.specs.declared.kind.Kind.{Kind}
use Rattle.rows.specs.declared.kind.Kind.TheVariants.{Top}
use Rattle.rows.specs.declared.row.Row.{Row}
use Rattle.tables.specs.declared.form.Form.{Form}
use Rattle.tables.specs.declared.form.Form.TheVariants.{Rule, Plain}

abbrev pub limit : Form → ℕ
limit Rule = 1024
limit Plain = 5120

abbrev pub knows : Form → Kind → Bool
knows Rule kind = true
knows Plain kind = not (is_in kind)

-- a number of two bytes, the high one first
abbrev pub word : ℕ → ℕ → ℕ
word high low = high * 256 + low

abbrev pub stated_rows : List ℕ → ℕ
stated_rows bytes = word (slice_index bytes 0) (slice_index bytes 1)

abbrev pub stated_flags : List ℕ → ℕ
stated_flags bytes = slice_index bytes 2

abbrev pub stated_codes : List ℕ → ℕ
stated_codes bytes = slice_index bytes 3

-- In the bytes after the sizes the kinds of all n rows come first, then four bytes for each row: these are row i's halves.
abbrev pub left_at : List ℕ → ℕ → ℕ → ℕ
left_at rest n i = word (slice_index rest (n + 4 * i)) (slice_index rest (n + 4 * i + 1))

abbrev pub right_at : List ℕ → ℕ → ℕ → ℕ
right_at rest n i = word (slice_index rest (n + 4 * i + 2)) (slice_index rest (n + 4 * i + 3))

-- Row i of n. A byte that is no kind's number has no meaning here: a table with one is refused.
abbrev pub row_at : List ℕ → ℕ → ℕ → Row
row_at rest n i = record {
  kind = unwrap_or (kind_of (slice_index rest i)) Top;
  left = left_at rest n i;
  right = right_at rest n i;
}

unfoldable pub rows_in : List ℕ → ℕ → List Row
rows_in rest n = map (row_at rest n) (range_with_len 0 n)

-- the rows of a table of these bytes
abbrev pub rows_of : List ℕ → List Row
rows_of bytes = rows_in (drop 4 bytes) (stated_rows bytes)

-- The bytes of a table with these flags used, codes used and rows: a number of two bytes as its high and its low byte, then the
-- kinds, then the halves.
abbrev pub half_bytes : Row → List ℕ
half_bytes r = (r.left / 256) ∷ (r.left % 256) ∷ (r.right / 256) ∷ (r.right % 256) ∷ []

abbrev pub kind_number : Row → ℕ
kind_number r = number r.kind

unfoldable pub body_bytes : List Row → List ℕ
body_bytes rows = map kind_number rows ++ flat_map half_bytes rows

unfoldable pub table_bytes : ℕ → ℕ → List Row → List ℕ
table_bytes flags codes rows = (length rows / 256) ∷ (length rows % 256) ∷ flags ∷ codes ∷ body_bytes rows
