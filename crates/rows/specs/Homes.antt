-- Where a row of a rule stands: outside, or in the body or the scope of an in row.
use Rattle.std.specs.Prelude.{ℕ, ◌+◌, Bool, true, false, cond, List, [], ◌∷◌, map, length, count_by, ◌==◌, slice_set}
use Rattle.std.specs.List.{range_with_len}
use Rattle.rows.specs.Kinds.{is_in, left_use, right_use}
use Rattle.rows.specs.Rows.{left_is, right_is}
use Rattle.rows.specs.declared.kind.Kind.{Kind}
use Rattle.rows.specs.declared.kind.HalfUse.{HalfUse}
use Rattle.rows.specs.declared.kind.HalfUse.TheVariants.{Zero, FlagNumber, CodeNumber, Operand}
use Rattle.rows.specs.declared.row.Row.{Row}
use Rattle.rows.specs.declared.home.Home.{Home}
use Rattle.rows.specs.declared.home.Home.TheVariants.{Outside, Body, Scope}

-- An in row puts its left operand into its body and its right operand into its scope; an operand of any other row stands
-- where that row stands. What stands in a scope keeps its operands there.
abbrev pub operand_home : Kind → Home → Home → Home
operand_home kind inner Outside = cond (is_in kind) inner Outside
operand_home kind inner (Body k) = cond (is_in kind) inner (Body k)
operand_home kind inner (Scope k) = Scope k

abbrev pub left_home : Kind → ℕ → Home → Home
left_home kind n Outside = cond (is_in kind) (Body n) Outside
left_home kind n (Body k) = cond (is_in kind) (Body n) (Body k)
left_home kind n (Scope k) = Scope k

abbrev pub right_home : Kind → ℕ → Home → Home
right_home kind n Outside = cond (is_in kind) (Scope n) Outside
right_home kind n (Body k) = cond (is_in kind) (Scope n) (Body k)
right_home kind n (Scope k) = Scope k

abbrev pub in_scope : Home → Bool
in_scope Outside = false
in_scope (Body k) = false
in_scope (Scope k) = true

abbrev pub in_scope_of : ℕ → Home → Bool
in_scope_of n Outside = false
in_scope_of n (Body k) = false
in_scope_of n (Scope k) = k == n

-- how many rows stand in the scope of in row n
abbrev pub scope_size : ℕ → List Home → ℕ
scope_size n hs = count_by (in_scope_of n) hs

-- where row i stands, by the rows from number n on: by the row whose operand it is, and outside if there is none
unfoldable pub home_from : ℕ → List Row → ℕ → Home
home_from n [] i = Outside
home_from n (r ∷ rest) i =
    cond (left_is r i) (left_home r.kind n (home_from (n + 1) rest n))
    (cond (right_is r i) (right_home r.kind n (home_from (n + 1) rest n)) (home_from (n + 1) rest i))

unfoldable pub home : List Row → ℕ → Home
home rows i = home_from 0 rows i

-- where each row stands
unfoldable pub homes : List Row → List Home
homes rows = map (home rows) (range_with_len 0 (length rows))

-- the homes after a half of a row's argument has put its operand, if it names one, into a home
abbrev pub placed : HalfUse → ℕ → Home → List Home → List Home
placed Zero half h hs = hs
placed FlagNumber half h hs = hs
placed CodeNumber half h hs = hs
placed Operand half h hs = slice_set hs half h

-- The homes after row n has put its operands into theirs. Its own home is known.
abbrev pub handed : Row → ℕ → Home → List Home → List Home
handed r n h hs =
    placed (left_use r.kind) r.left (left_home r.kind n h)
    (placed (right_use r.kind) r.right (right_home r.kind n h) hs)
