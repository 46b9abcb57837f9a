use Rattle.std.proofs.Common.{◌≡◌, true, false, ◌&&◌, length, vec_items, unwrap_or, set, sym, refl, ap, ◌∙◌, subst, arith}
use Rattle.std.proofs.lemmas.List.{length-map}
use Rattle.rows.specs.Homes.{home}
use Rattle.rows.proofs.Parents.{in_within}
use Rattle.scopes.specs.Answered.{scope_answer}
use Rattle.marking.specs.Bodies.{at_home, Held, heres}
use Rattle.marking.specs.declared.straight.Left.{Left}
use Rattle.marking.proofs.Bodies.{PassingFrom, rule_ruled, passing_more, heres_set, laters_kept}
use Rattle.marking.proofs.Left.{home_held}
use Rattle.rows.proofs.Places.{length_homes}
use Rattle.marking.proofs.Walks.{HomeTurn, homes_left, back_start, back_less, back_more, back_turn}
use Rattle.marking.proofs.straight.find_here.Goals as goal
use Rattle.marking.proofs.straight.find_here.Goals.{In-Some, then-above, else-above}

turn : (c : In-Some) → HomeTurn (vec_items c.args.rule.now.table.rows) (length (homes_left c.next.new.self)) c.in-Some.number c.in-Some.home.now
turn c =
    let rule = c.args.rule.now in
    back_turn (vec_items rule.table.rows) (vec_items rule.homes) rule.placed c.loop-number.number-iterator c.next.new.self c.loop-number.invariant.back c.in-Some.number c.in-Some.home c.in-Some.ensures.steps

pub loop-number-init : goal.loop-number-init
loop-number-init c =
    let rule = c.args.rule.now in
    let rows = vec_items rule.table.rows in
    let all : homes_left c.into_iter-number-iterator.result ≡ vec_items rule.homes = cc in
    record {
      back = back_start (vec_items rule.homes) c.into_iter-number-iterator.result (cc, cc);
      here = λ state same k past in_row.
          let within = in_within rows k in_row in
          absurd (omega (arith, ap length all, length_homes rows rule.placed));
      later = refl;
    }

pub left_at-above-requires : goal.left_at-above-requires
left_at-above-requires c =
    let rule = c.args.rule.now in
    let here = turn (goal.at.left_at-above-requires c).In-Some in
    subst (λ h. Held h (length c.loop-number.bodies)) (sym here.home_is) (home_held (rule_ruled rule) (length (homes_left c.next.new.self)) (length c.loop-number.bodies) here.within (omega arith))

pub bounds-bodies-number : goal.bounds-bodies-number
bounds-bodies-number c = let here = turn (goal.at.bounds-bodies-number c).In-Some in omega (arith, here.within, here.number_is)

pub loop-number-preserved : goal.loop-number-preserved
loop-number-preserved c =
    let rule = c.args.rule.now in
    let rows = vec_items rule.table.rows in
    let at = (goal.at.loop-number-preserved c).In-Some in
    let here = turn at in
    let m = length (homes_left c.next.new.self) in
    let number = c.in-Some.number in
    let bodies = c.loop-number.bodies in
    let state = c.args.state.now in
    let value = c.if-above.here in
    let left = c.loop-number.invariant in
    let less = back_less rows (vec_items rule.homes) rule.placed c.loop-number.number-iterator c.next.new.self left.back number c.in-Some.home c.in-Some.ensures.steps in
    let answer = unwrap_or (scope_answer rows number state) false in
    let both : value ≡ (c.left_at-above.result.here && answer) =
    elim c.if-above.branch [
      | then-above w ↦ w.here-is ∙ w.unwrap_or-here.ensures ∙ ap (λ o. unwrap_or o false) w.in_scope.ensures ∙ sym (ap (λ b. b && answer) w.if-above.true)
      | else-above w ↦ w.here-is ∙ w.if-above.false ∙ sym (ap (λ b. b && answer) w.if-above.false)
    ] in
    let above = c.left_at-above.ensures.here ∙ ap (λ h. at_home h (heres bodies) true) here.home_is in
    let is : value ≡ (at_home (home rows m) (heres bodies) true && unwrap_or (scope_answer rows m state) false) = both ∙ ap (λ b. b && answer) above ∙ ap (λ i. at_home (home rows m) (heres bodies) true && unwrap_or (scope_answer rows i state) false) here.number_is in
    let known = passing_more rows (rule_ruled rule) (length (homes_left c.loop-number.number-iterator)) m (heres bodies) value state (omega arith) here.within (omega (arith, length-map bodies (λ (l : Left). l.here), here.within)) left.here is in
    record {
      back = back_more rows (vec_items rule.homes) rule.placed c.loop-number.number-iterator c.next.new.self left.back number c.in-Some.home c.in-Some.ensures.steps;
      here = subst (PassingFrom m rows state.flags) (sym (heres_set bodies number value _ ∙ ap (λ i. set (heres bodies) i value) here.number_is)) known;
      later = laters_kept bodies number value _ refl ∙ left.later;
    }
