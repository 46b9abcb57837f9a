use Rattle.std.proofs.Common.{◌+◌, ◌-◌, true, ltb, length, get_or, drop, vec_items, sym, ap, ◌∙◌, subst, rules, arith}
use Rattle.std.proofs.lemmas.List.{length_push}
use borrow.Author.Rules.{scaled_Fits}
use Rattle.sessions.specs.States.{no_state}
use Rattle.marking.specs.Bodies.{at_home, Held, Bodies, heres, laters}
use Rattle.marking.specs.Marks.{MarksOn, Fits}
use Rattle.marking.specs.Straight.{straight_mark}
use Rattle.marking.proofs.Bodies.{rule_ruled}
use Rattle.marking.proofs.Filling.{step_done, step_left}
use Rattle.marking.proofs.Left.{home_held}
use Rattle.marking.proofs.Rules.{rule_sound, rule_taken, rule_kept}
use Rattle.marking.proofs.Turns.{mark_by}
use Rattle.rows.proofs.Walks.{Turn, front_turn, front_end}
use Rattle.marking.proofs.straight.step.Given.{Over}
use Rattle.marking.proofs.straight.step.Goals as goal
use Rattle.marking.proofs.straight.step.Goals.{In-Some}

turn : (g : Over) (c : In-Some g) → Turn (vec_items c.args.rule.now.table.rows) (length c.loop-number.yielded) c.in-Some.number c.in-Some.row.now c.in-Some.home.now
turn g c =
    let rule = c.args.rule.now in
    front_turn (vec_items rule.table.rows) (vec_items rule.homes) rule.placed c.into_iter-number-iterator.result (cc, cc, cc) c.loop-number.yielded c.loop-number.number-iterator c.loop-number.yielded_by c.next.new.self c.in-Some.number c.in-Some.row c.in-Some.home c.in-Some.ensures.steps

pub left_at-left-requires : goal.left_at-left-requires
left_at-left-requires g c =
    let here = turn g (goal.at.left_at-left-requires g c).In-Some in
    let bodies = c.find_here.new.bodies in
    subst (λ h. Held h (length bodies)) (sym here.home_is) (home_held (rule_ruled c.args.rule.now) (length c.loop-number.yielded) (length bodies) here.within (omega arith))

pub state_mark-requires-clause-fits : goal.state_mark-requires-clause-fits
state_mark-requires-clause-fits g c =
    let here = turn g (goal.at.state_mark-requires-clause-fits g c).In-Some in
    let i = length c.loop-number.yielded in
    let fits = rule_sound (rule_ruled c.args.rule.now) i here.within in (
      subst (λ n. Fits c.in-Some.row.now.kind n c.in-Some.row.now.left c.in-Some.row.now.right) (sym here.number_is) (subst (λ r. Fits r.kind i r.left r.right) (sym here.row_is) fits),
      omega (arith, here.within, here.number_is),
    )

pub offset_bounds-marks-number : goal.offset_bounds-marks-number
offset_bounds-marks-number g c =
    let here = turn g (goal.at.offset_bounds-marks-number g c).In-Some in
    scaled_Fits c.in-Some.number (length c.loop-number.marks) _ (omega (arith, here.within, here.number_is)) (search rules)

pub loop-number-preserved-then-left : goal.loop-number-preserved-then-left
loop-number-preserved-then-left g c =
    let here = turn g (goal.at.loop-number-preserved-then-left g c).In-Some in
    let L = g.M.Scale.ops in
    let rule = c.args.rule.now in
    let rows = vec_items rule.table.rows in
    let states = g.S.Session.states c.args.session.now in
    let position = c.args.position in
    let i = length c.loop-number.yielded in
    let marks = c.loop-number.marks in
    let after = c.copy_from_slice.new.self in
    let bodies = c.find_here.new.bodies in
    let mark = c.state_mark.result in
    let left = c.left_at-left in
    let count = c.len.result in
    let stored = subst (MarksOn L (straight_mark L rows) (drop (position + 1) states) (length rows)) (sym c.copy_from_slice.ensures.after) c.requires.marked in
    let passing = sym (left.ensures.here ∙ ap (λ h. at_home h (heres bodies) true) here.home_is) ∙ c.if-left.true in
    let seen = subst (Bodies rows (drop (position + 1) states)) (sym c.find_here.ensures.later) c.requires.later in
    let later_at = left.ensures.later ∙ ap (λ h. at_home h (laters bodies) (ltb position (count - 1))) here.home_is in
    let worked = mark_by L c.state_at-state.result left.result.later marks after mark here.row_is here.number_is c.state_mark.ensures in
    let is = rule_taken (rule_ruled rule) L i here.within states position c.requires.within (heres bodies) (c.find_here.ensures.here (get_or states position no_state) c.state_at-state.ensures.flags) g.met.M.Scale.kept marks after count c.state_at-state.result left.result.later mark (laters bodies) c.loop-number.invariant.here stored passing c.len.ensures c.state_at-state.ensures seen later_at worked in
    step_done L (straight_mark L rows) (drop position states) i c.in-Some.number c.args.marks.now marks mark here.number_is (omega (arith, here.within)) (length_push c.loop-number.yielded _) is c.loop-number.invariant.here c.loop-number.invariant.ahead

pub loop-number-preserved : goal.loop-number-preserved
loop-number-preserved g c =
    let here = turn g (goal.at.loop-number-preserved g c).In-Some in
    let L = g.M.Scale.ops in
    let rule = c.args.rule.now in
    let rows = vec_items rule.table.rows in
    let states = g.S.Session.states c.args.session.now in
    let position = c.args.position in
    let i = length c.loop-number.yielded in
    let bodies = c.find_here.new.bodies in
    let shut = sym (c.left_at-left.ensures.here ∙ ap (λ h. at_home h (heres bodies) true) here.home_is) ∙ c.if-left.false in
    let kept = rule_kept (rule_ruled rule) L i here.within states position c.requires.within (heres bodies) (c.find_here.ensures.here (get_or states position no_state) c.state_at-state.ensures.flags) shut in
    let is = c.loop-number.invariant.ahead i (omega arith) ∙ c.requires.marked i here.within ∙ kept in
    step_left L (straight_mark L rows) (drop position states) i c.args.marks.now c.loop-number.marks (length_push c.loop-number.yielded _) is c.loop-number.invariant.here c.loop-number.invariant.ahead

pub returns-clause-marked : goal.returns-clause-marked
returns-clause-marked g c =
    let rule = c.args.rule.now in
    let ended = front_end (vec_items rule.table.rows) (vec_items rule.homes) rule.placed c.into_iter-number-iterator.result (cc, cc, cc) c.loop-number.yielded c.loop-number.number-iterator c.loop-number.yielded_by c.next.new.self c.in-None.ensures.steps in
    λ k h. c.loop-number.invariant.here k (omega (arith, ended))
