use Rattle.std.proofs.Common.{drop}
use Rattle.meaning.specs.Meaning.{row_mark}
use Rattle.marking.specs.Marks.{MarksOn}
use Rattle.marking.proofs.marks.step.Given as goal

abbrev pub invariant-loop-number : goal.invariant-loop-number
invariant-loop-number g l = MarksOn g.M.Scale.ops (row_mark g.M.Scale.ops l.rows) (drop l.position (g.S.Session.states l.session)) l.number l.marks
