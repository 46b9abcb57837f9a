use Rattle.std.proofs.Common.{◌-◌, ◌<◌, length, get_or, vec_items, vec_len, vec_capacity, ap, ◌∙◌, arith}
use Rattle.sessions.specs.States.{no_state}
use Rattle.tables.specs.declared.form.Form.TheVariants.{Rule}
use Rattle.tables.proofs.Sound.{fine_sizes}
use Rattle.meaning.specs.Meaning.{in_scope}
use Rattle.scopes.specs.Answered.{whole}
use Rattle.scopes.proofs.Answering.{scope_root, same_scope}
use Rattle.thinning.proofs.Picked.{picked, passed}
use Rattle.thinning.proofs.thinned.find.Goals as goal
use Rattle.thinning.proofs.thinned.find.Goals.{then-kept, else-kept}

pub loop-position-preserved : goal.loop-position-preserved
loop-position-preserved g c =
    let w = g.S.Session.states c.args.session.now in
    let scope = c.args.scope.now in
    let rows = vec_items scope.table.rows in
    let i = c.loop-position.position in
    let within : i < length w = omega (arith, c.len-position-end.ensures) in
    let some = (fine_sizes Rule scope.table.flags scope.table.codes rows scope.lawful).0 in
    let root = scope_root scope.table.flags scope.table.codes rows scope.lawful scope.kinds (length rows - 1) (omega arith) in
    let told = c.contains-kept.ensures ∙ same_scope rows (length rows - 1) root c.state_at.result (get_or w i no_state) c.state_at.ensures.flags in
    elim c.if-kept.branch [
      | then-kept u ↦ (
        omega (arith, ap vec_len u.positions-is, u.push_reserved.ensures.len),
        omega (arith, ap vec_capacity u.positions-is, u.push_reserved.ensures.capacity),
        picked w (in_scope (whole rows)) _ (vec_items c.if-kept.positions) i c.loop-position.invariant.2 (ap vec_items u.positions-is ∙ u.push_reserved.ensures.items) within told u.if-kept.true,
      )
      | else-kept u ↦ (
        omega (arith, ap vec_len u.positions-is),
        omega (arith, ap vec_capacity u.positions-is),
        passed w (in_scope (whole rows)) _ (vec_items c.if-kept.positions) i c.loop-position.invariant.2 (ap vec_items u.positions-is) within told u.if-kept.false,
      )
    ]
