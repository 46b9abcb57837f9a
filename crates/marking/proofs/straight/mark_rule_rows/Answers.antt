use Rattle.std.proofs.Common.{◌≡◌, ◌+◌, ◌-◌, ◌<◌, ◌≤◌, [], ◌++◌, length, get_or, take, drop, replicate, vec_items, sym, ap, ◌∙◌, subst, arith}
use Rattle.std.proofs.lemmas.List.{drop_all, drop_more, length-replicate, length-take, take-replicate}
use Rattle.sessions.specs.States.{no_state}
use Rattle.meaning.specs.Meaning.{row_mark}
use Rattle.marking.specs.Bodies.{Bodies, heres, laters}
use Rattle.marking.specs.Marks.{Sound, Filled, MarksOn}
use Rattle.marking.specs.Straight.{straight_mark}
use Rattle.marking.proofs.Bodies.{rule_ruled, bodies_more, nothing_left, nothing_taken}
use Rattle.marking.proofs.Filling.{at_end, at_turn, at_start, answer_is}
use Rattle.marking.proofs.Rules.{rule_sound, last_whole, straight_start}
use Rattle.marking.proofs.straight.mark_rule_rows.Goals as goal

pub start-requires-clause-sound : goal.start-requires-clause-sound
start-requires-clause-sound g c = subst Sound (sym c.as_slice-rows.ensures.value) (rule_sound (rule_ruled c.args.rule.now))

pub loop-position-init : goal.loop-position-init
loop-position-init g c =
    let L = g.M.Scale.ops in
    let rows = vec_items c.args.rule.now.table.rows in
    let states = g.S.Session.states c.args.session.now in
    let marks = c.start.new.marks in
    let plain = subst (λ r. MarksOn L (row_mark L r) [] (length r) marks) c.as_slice-rows.ensures.value c.start.ensures.marked in
    let started = at_end L (length rows) (straight_mark L rows) states marks c.start.new.after (straight_start L rows (length rows) marks plain) c.start.ensures.stored c.len-position.result c.len-position.ensures in
    let none : drop c.len-position.result states ≡ [] = drop_all c.len-position.result states (omega (arith, c.len-position.ensures)) in
    let default : nothing_left ≡ c.default-lefts.result = λ j. record { here = sym c.default-lefts.ensures.0 j; later = sym c.default-lefts.ensures.1 j } in
    let n = length c.as_slice-rows.result.now in
    let same : n ≡ length rows = ap length c.as_slice-rows.ensures.value in
    let few : n ≤ 1024 = omega (arith, same, c.args.rule.now.few) in
    let taken = take-replicate n 1024 c.default-lefts.result few in
    let untaken = subst (λ l. Bodies rows [] (laters (replicate n l))) default (nothing_taken rows n) in
    record {
      here = started.0;
      later = started.1;
      bodies = subst (λ w. Bodies rows w (laters (take n (replicate 1024 c.default-lefts.result)))) (sym none) (subst (λ l. Bodies rows [] (laters l)) (sym taken) untaken);
      many = ap length taken ∙ length-replicate n c.default-lefts.result ∙ same;
    }

pub loop-position-preserved : goal.loop-position-preserved
loop-position-preserved g c =
    let L = g.M.Scale.ops in
    let rows = vec_items c.args.rule.now.table.rows in
    let states = g.S.Session.states c.args.session.now in
    let at = c.loop-position.position - 1 in
    let left = c.loop-position.invariant in
    let stored = at_turn L (length rows) (straight_mark L rows) states c.loop-position.position c.loop-position-test.true c.loop-position.marks left.here in
    let next : c.loop-position.position ≡ at + 1 = omega arith in
    let inside : at < length states = omega (arith, c.len-position.ensures) in
    let seen = subst (Bodies rows (drop (at + 1) states)) (sym c.step.ensures.later) (subst (λ p. Bodies rows (drop p states) (laters c.loop-position.bodies)) next left.bodies) in
    let more = bodies_more rows (get_or states at no_state) (drop (at + 1) states) (heres c.step.new.bodies) (laters c.step.new.bodies) (laters c.add_later.new.bodies) c.step.ensures.here seen c.add_later.ensures in
    record {
      here = c.step.ensures.marked;
      later = λ k h. ap (λ l. get_or l k L.top) c.step.ensures.stored ∙ stored k h;
      bodies = subst (λ w. Bodies rows w (laters c.add_later.new.bodies)) (sym (drop_more states at no_state inside)) more;
      many = omega (arith, left.many);
    }

pub last_mark-requires : goal.last_mark-requires
last_mark-requires g c =
    let some_rows = (rule_ruled c.args.rule.now).some in
    omega (arith, ap length c.as_slice-rows.ensures.value, c.split_at_mut-marks.ensures.front_len)

pub returns-clause-value : goal.returns-clause-value
returns-clause-value g c =
    let L = g.M.Scale.ops in
    let rule = c.args.rule.now in
    let rows = vec_items rule.table.rows in
    let states = g.S.Session.states c.args.session.now in
    let left = c.loop-position.invariant in
    let long : length c.loop-position.marks ≡ length rows = omega (arith, ap length c.as_slice-rows.ensures.value, c.split_at_mut-marks.ensures.front_len) in
    answer_is L (length rows) (straight_mark L rows) states c.loop-position.position c.loop-position-test.false c.loop-position.marks c.loop-position.after left.here left.later c.last_mark.result (rule_ruled rule).some long c.last_mark.ensures
    ∙ ap (row_mark L rows (length rows - 1)) (last_whole (rule_ruled rule) states)

pub returns-clause-filled : goal.returns-clause-filled
returns-clause-filled g c =
    let L = g.M.Scale.ops in
    let rows = vec_items c.args.rule.now.table.rows in
    let states = g.S.Session.states c.args.session.now in
    let old = c.args.strip.now in
    let marks = c.loop-position.marks in
    let after = c.loop-position.after in
    let front = c.split_at_mut-marks.result.0.now in
    let rest = c.split_at_mut-marks.result.1.now in
    let same : length c.as_slice-rows.result.now ≡ length rows = ap length c.as_slice-rows.ensures.value in
    let cut = c.split_at_mut-marks.ensures in
    let left = c.loop-position.invariant in
    let cut_long = length-take (length c.as_slice-rows.result.now) rest in
    let filled = at_start L (length rows) (straight_mark L rows) states c.loop-position.position c.loop-position-test.false marks after left.here left.later old front rest cut.value (cut.front_len ∙ same) (omega (arith, same, cut.front_len)) (omega (arith, same, cut.back_len, cut_long)) c.requires in
    subst (λ n. Filled L (length rows) (straight_mark L rows) states (drop 1 states) (length rows) old (marks ++ (after ++ drop n rest))) (sym same) filled
