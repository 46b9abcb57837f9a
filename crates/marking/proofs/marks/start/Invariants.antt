use Rattle.std.proofs.Common.{[]}
use Rattle.meaning.specs.Meaning.{row_mark}
use Rattle.marking.specs.Marks.{MarksOn}
use Rattle.marking.proofs.marks.start.Given as goal

abbrev pub invariant-loop-number : goal.invariant-loop-number
invariant-loop-number g l = MarksOn g.M.Scale.ops (row_mark g.M.Scale.ops l.rows) [] l.number l.marks
