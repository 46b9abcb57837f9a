-- What a strip holds after a marking straight from a rule.
use Rattle.std.specs.Prelude.{ℕ, zero, suc, ◌*◌, cond, List, ◌++◌, map, length, drop, nat_lt, slice_index_or}
use Rattle.std.specs.List.{range_with_len}
use Rattle.rows.specs.Homes.{home}
use Rattle.rows.specs.Rows.{blank}
use Rattle.rows.specs.declared.home.Home.{Home}
use Rattle.rows.specs.declared.home.Home.TheVariants.{Outside, Body, Scope}
use Rattle.rows.specs.declared.row.Row.{Row}
use Rattle.scales.specs.Lattice.{Lattice}
use Rattle.sessions.specs.declared.state.State.{State}
use Rattle.meaning.specs.Formulas.{formula_at}
use Rattle.meaning.specs.Meaning.{thinned, row_mark}

-- What is left of a session for a row with this home: of what is left for the in row in whose body it is, the states in scope.
-- Scope rows are taken on all states.
abbrev pub left_in : (ℕ → List State → List State) → List Row → Home → List State → List State
left_in above rows Outside w = w
left_in above rows (Body k) w = thinned (formula_at rows (slice_index_or rows k blank).right) (above k w)
left_in above rows (Scope k) w = w

-- through at most so many in rows
unfoldable pub left_up : ℕ → List Row → ℕ → List State → List State
left_up zero rows i w = w
left_up (suc count) rows i w = left_in (left_up count rows) rows (home rows i) w

-- the states of a session that all in rows above row i leave
unfoldable pub left_for : List Row → ℕ → List State → List State
left_for rows i w = left_up (length rows) rows i w

-- row i's mark on the states that are left for it
abbrev pub straight_mark : {M : Type 0} → Lattice M → List Row → ℕ → List State → M
straight_mark L rows i w = row_mark L rows i (left_for rows i w)

unfoldable pub straight_marks : {M : Type 0} → Lattice M → List Row → List State → List M
straight_marks L rows w = map (λ i. straight_mark L rows i w) (range_with_len 0 (length rows))

-- the strip afterwards, as after a marking by a plain table
abbrev pub straight_marked : {M : Type 0} → Lattice M → List Row → List State → List M → List M
straight_marked L rows w old = straight_marks L rows w ++ (straight_marks L rows (drop 1 w) ++ drop (2 * length rows) old)

abbrev pub after_straight : {M : Type 0} → Lattice M → List Row → List State → List M → List M
after_straight L rows w old = cond (nat_lt (length old) (2 * length rows)) old (straight_marked L rows w old)
