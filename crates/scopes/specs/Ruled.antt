-- What is known of the rows of a rule, and of the rows of a scope.
use Rattle.std.specs.Prelude.{◌≡◌, ℕ, ◌<◌, Bool, true, ◌&&◌, List, [], ◌∷◌, length, slice_index_or}
use Rattle.rows.specs.Homes.{home, in_scope}
use Rattle.rows.specs.Kinds.{may_scope}
use Rattle.rows.specs.Reach.{Operand, Reached, Tree, Flat}
use Rattle.rows.specs.Rows.{blank}
use Rattle.rows.specs.declared.row.Row.{Row}

-- they form a tree, no in row stands in a scope, and what stands in a scope is of a kind that may
pub record Ruled (rows : List Row) : Type 0 where
  pub tree : Tree rows
  pub flat : Flat rows
  pub scopes : (i : ℕ) → i < length rows → in_scope (home rows i) ≡ true → may_scope (slice_index_or rows i blank).kind ≡ true
  pub some : 0 < length rows

-- Row k is the root of a scope: operands are below their rows, and what is reached from row k is of a kind that may stand in a
-- scope.
pub record ScopeRoot (rows : List Row) (k : ℕ) : Type 0 where
  pub within : k < length rows
  pub below : (j i : ℕ) → Operand rows j i → i < j
  pub kinds : (i : ℕ) → Reached rows k i → may_scope (slice_index_or rows i blank).kind ≡ true

-- all rows are of kinds that may stand in a scope
unfoldable pub all_may_scope : List Row → Bool
all_may_scope [] = true
all_may_scope (row ∷ rows) = may_scope row.kind && all_may_scope rows
