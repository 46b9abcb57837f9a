use Rattle.std.proofs.Common.{◌≡◌, ◌+◌, length, drop, vec_items}
use Rattle.marking.specs.Bodies.{Bodies, laters}
use Rattle.marking.specs.Marks.{MarksOn}
use Rattle.marking.specs.Straight.{straight_mark}
use Rattle.marking.proofs.straight.mark_rule_rows.Given as goal

abbrev pub invariant-loop-position : goal.invariant-loop-position
invariant-loop-position g l =
    let L = g.M.Scale.ops in
    let rows = vec_items l.rule.table.rows in
    let states = g.S.Session.states l.session in
    record {
      here : MarksOn L (straight_mark L rows) (drop l.position states) (length rows) l.marks;
      later : MarksOn L (straight_mark L rows) (drop (l.position + 1) states) (length rows) l.after;
      bodies : Bodies rows (drop l.position states) (laters l.bodies);
      many : length l.bodies ≡ length rows;
    }
