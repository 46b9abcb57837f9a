use Rattle.std.proofs.Common.{◌≡◌, ◌≤◌, take, vec_items, vec_len, vec_capacity, filter}
use Rattle.meaning.specs.Meaning.{in_scope}
use Rattle.scopes.specs.Answered.{whole}
use Rattle.thinning.specs.Thinned.{states_at}
use Rattle.thinning.proofs.thinned.find.Given as goal

abbrev pub invariant-loop-position : goal.invariant-loop-position
invariant-loop-position g l =
    let w = g.S.Session.states l.session in
    (vec_len l.positions ≤ l.position)
    × (65535 ≤ vec_capacity l.positions)
    × (states_at w (vec_items l.positions) ≡ filter (in_scope (whole (vec_items l.scope.table.rows))) (take l.position w))
