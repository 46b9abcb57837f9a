use Rattle.std.proofs.Common.{◌+◌, length, drop}
use Rattle.meaning.specs.Meaning.{row_mark}
use Rattle.marking.specs.Marks.{MarksOn}
use Rattle.marking.proofs.marks.mark_rows.Given as goal

abbrev pub invariant-loop-position : goal.invariant-loop-position
invariant-loop-position g l =
    let L = g.M.Scale.ops in
    let states = g.S.Session.states l.session in
    record {
      here : MarksOn L (row_mark L l.rows) (drop l.position states) (length l.rows) l.marks;
      later : MarksOn L (row_mark L l.rows) (drop (l.position + 1) states) (length l.rows) l.after;
    }
