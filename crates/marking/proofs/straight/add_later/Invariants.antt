use Rattle.marking.proofs.Bodies.{Added}
use Rattle.marking.proofs.straight.add_later.Given as goal

abbrev pub invariant-loop-left : goal.invariant-loop-left
invariant-loop-left l = Added l.left-index l.initial.bodies l.bodies
