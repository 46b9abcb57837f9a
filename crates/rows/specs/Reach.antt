-- Bodies and scopes of in rows, by what is reached from their halves.
use Rattle.std.specs.Prelude.{◌≡◌, ℕ, ◌+◌, ◌<◌, ◌≤◌, true, ◌||◌, List, length, get_or, ◌≢◌, slice_index_or}
use Rattle.rows.specs.Homes.{home, in_scope}
use Rattle.rows.specs.Kinds.{is_in}
use Rattle.rows.specs.Rows.{blank, left_is, right_is, uses}
use Rattle.rows.specs.declared.home.Home.{Home}
use Rattle.rows.specs.declared.home.Home.TheVariants.{Outside, Body, Scope}
use Rattle.rows.specs.declared.row.Row.{Row}

-- row i is an operand of row j
abbrev pub Operand : List Row → ℕ → ℕ → Type 0
Operand rows j i = (left_is (slice_index_or rows j blank) i || right_is (slice_index_or rows j blank) i) ≡ true

-- row i is reached from row k: it is row k, or an operand of a row that is reached
pub data Reached (rows : List Row) (k : ℕ) : ℕ → Type 0 where
  here : Reached rows k k
  down : (j i : ℕ) → Reached rows k j → Operand rows j i → Reached rows k i

abbrev pub InRow : List Row → ℕ → Type 0
InRow rows k = is_in (get_or rows k blank).kind ≡ true

-- row i is in the body, in the scope, of in row k
abbrev pub InBody : List Row → ℕ → ℕ → Type 0
InBody rows k i = InRow rows k × Reached rows (get_or rows k blank).left i

abbrev pub InScope : List Row → ℕ → ℕ → Type 0
InScope rows k i = InRow rows k × Reached rows (get_or rows k blank).right i

-- What a home says of row i: outside, it is in no body and no scope; in a body, that is the nearest of the bodies that it is
-- in, and it is in no scope; in a scope, there is no other.
abbrev pub Stands : List Row → ℕ → Home → Type 0
Stands rows i Outside = (k : ℕ) → (InBody rows k i → ⊥) × (InScope rows k i → ⊥)
Stands rows i (Body k) = InBody rows k i × ((m : ℕ) → InBody rows m i → k ≤ m) × ((m : ℕ) → InScope rows m i → ⊥)
Stands rows i (Scope k) = InScope rows k i × ((m : ℕ) → InScope rows m i → m ≡ k)

-- rows that form a tree: operands are below their rows, and every row but the last is an operand once
pub record Tree (rows : List Row) : Type 0 where
  pub below : (j i : ℕ) → Operand rows j i → i < j
  pub once : (i : ℕ) → i + 1 < length rows → uses rows i ≡ 1

-- no in row stands in a scope
abbrev pub Flat : List Row → Type 0
Flat rows = (i : ℕ) → i < length rows → InRow rows i → in_scope (home rows i) ≢ true

-- the rows that stand in a scope are those that are reached from the right half of some in row
abbrev pub Scoped : List Row → ℕ → Home → Type 0
Scoped rows i h = (in_scope h ≡ true → (k : ℕ) × InScope rows k i) × ((k : ℕ) → InScope rows k i → in_scope h ≡ true)
