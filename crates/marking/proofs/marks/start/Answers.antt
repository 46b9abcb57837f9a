use Rattle.std.proofs.Common.{[], arith}
use Rattle.meaning.specs.Meaning.{row_mark}
use Rattle.marking.proofs.Filling.{marks_more}
use Rattle.marking.proofs.Turns.{start_is}
use Rattle.marking.proofs.marks.start.Goals as goal

pub loop-number-preserved : goal.loop-number-preserved
loop-number-preserved g c =
    let L = g.M.Scale.ops in
    let rows = c.args.rows.now in
    let i = c.loop-number.number in
    let marks = c.loop-number.marks in
    let here = c.empty_mark.result in
    let is = start_is L rows c.requires.sound i c.loop-number-test.true marks here c.loop-number.invariant c.empty_mark.ensures in
    marks_more L i (row_mark L rows) [] i marks here (omega arith) is c.loop-number.invariant
