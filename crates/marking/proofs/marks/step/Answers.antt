use Rattle.std.proofs.Common.{◌+◌, length, drop, sym, subst, arith}
use Rattle.meaning.specs.Meaning.{row_mark}
use Rattle.marking.specs.Marks.{MarksOn}
use Rattle.marking.proofs.Filling.{marks_more}
use Rattle.marking.proofs.Turns.{step_is}
use Rattle.marking.proofs.marks.step.Goals as goal

pub loop-number-preserved : goal.loop-number-preserved
loop-number-preserved g c =
    let L = g.M.Scale.ops in
    let rows = c.args.rows.now in
    let i = c.loop-number.number in
    let states = g.S.Session.states c.args.session.now in
    let position = c.args.position in
    let marks = c.loop-number.marks in
    let after = c.copy_from_slice.new.self in
    let here = c.state_mark.result in
    let stored = subst (MarksOn L (row_mark L rows) (drop (position + 1) states) (length rows)) (sym c.copy_from_slice.ensures.after) c.requires.marked in
    let is = step_is L rows c.requires.sound.0 i c.loop-number-test.true marks c.requires.sound.1 g.met.M.Scale.kept states position c.len.result c.state_at-state.result after here c.requires.within c.len.ensures c.state_at-state.ensures stored c.loop-number.invariant c.state_mark.ensures in
    marks_more L i (row_mark L rows) (drop position states) i marks here (omega arith) is c.loop-number.invariant
