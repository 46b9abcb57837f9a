use Rattle.std.proofs.Common.{arith}
use Rattle.marking.proofs.Bodies.{added_more}
use Rattle.marking.proofs.straight.add_later.Goals as goal

pub loop-left-preserved : goal.loop-left-preserved
loop-left-preserved c = added_more c.loop-left.left-index c.args.bodies.now c.loop-left.bodies (omega arith) c.loop-left.invariant
