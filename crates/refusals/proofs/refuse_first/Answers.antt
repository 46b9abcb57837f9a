use Rattle.std.proofs.Common.{sym, ◌∙◌}
use Rattle.refusals.proofs.First.{first_step, first_here, first_end}
use Rattle.refusals.proofs.refuse_first.Goals as goal

pub returns-in-Some : goal.returns-in-Some
returns-in-Some g c found tells =
    let here = tells c.loop-place.place _ c.loop-place-test.true c.in-Some.ensures in
    sym (c.loop-place.invariant found tells) ∙ first_here found c.loop-place.place c.args.count c.loop-place-test.true (sym here)

pub loop-place-preserved : goal.loop-place-preserved
loop-place-preserved g c found tells =
    let here = tells c.loop-place.place _ c.loop-place-test.true c.in_default.ensures in
    sym (first_step found c.loop-place.place c.args.count c.loop-place-test.true (sym here)) ∙ c.loop-place.invariant found tells

pub returns : goal.returns
returns g c found tells = sym (c.loop-place.invariant found tells) ∙ first_end found c.loop-place.place c.args.count c.loop-place-test.false
