use Rattle.std.proofs.Common.{◌≡◌, ◌+◌, length, vec_items, sym, ap, subst, arith}
use Rattle.translation.specs.Translation.{gate_step, after_gates}
use Rattle.translator.specs.Drafts.{drafted}
use Rattle.translator.proofs.Growth.{gate_grows}
use Rattle.rows.proofs.Walks.{Turn}
use Rattle.translator.proofs.Pairs.{rows_left, back_start, back_turn, back_less, back_more, back_end}
use Rattle.translator.proofs.Turns.{FallingTo, gates_start, gates_few, falling_room, falling_more, falling_end}
use Rattle.translator.proofs.draft.Draft.write_gates.Goals as goal
use Rattle.translator.proofs.draft.Draft.write_gates.Goals.{In-Some}

turn : (c : In-Some) → Turn (vec_items c.args.rule.now.table.rows) (length (rows_left c.next.new.self)) c.in-Some.number c.in-Some.row.now c.in-Some.home.now
turn c =
    let rule = c.args.rule.now in
    back_turn (vec_items rule.table.rows) (vec_items rule.homes) rule.placed c.loop-number.number-iterator c.next.new.self c.loop-number.invariant.back c.in-Some.number c.in-Some.row c.in-Some.home c.in-Some.ensures.steps

left : (c : In-Some) → FallingTo gate_step (vec_items c.args.rule.now.table.rows) (after_gates (vec_items c.args.rule.now.table.rows)) (length (rows_left c.next.new.self) + 1) (drafted c.loop-number.self)
left c =
    let rule = c.args.rule.now in
    let rows = vec_items rule.table.rows in
    let less = back_less rows (vec_items rule.homes) rule.placed c.loop-number.number-iterator c.next.new.self c.loop-number.invariant.back c.in-Some.number c.in-Some.row c.in-Some.home c.in-Some.ensures.steps in
    subst (λ n. FallingTo gate_step rows (after_gates rows) n (drafted c.loop-number.self)) less c.loop-number.invariant.left

pub loop-number-init : goal.loop-number-init
loop-number-init c =
    let rule = c.args.rule.now in
    let rows = vec_items rule.table.rows in
    let all : rows_left c.into_iter-number-iterator.result ≡ rows = cc in
    record {
      back = back_start rows (vec_items rule.homes) rule.placed c.into_iter-number-iterator.result (cc, cc, cc);
      left = subst (λ n. FallingTo gate_step rows (after_gates rows) n (drafted c.args.self.now)) (sym (ap length all)) (gates_start rows c.requires);
    }

pub write_gate-requires : goal.write_gate-requires
write_gate-requires c =
    let rule = c.args.rule.now in
    let rows = vec_items rule.table.rows in
    let here = (goal.at.write_gate-requires c).In-Some in
    omega (arith, falling_room gate_step gate_grows rows (after_gates rows) _ (drafted c.loop-number.self) (turn here) (left here), gates_few rows rule.few)

pub loop-number-preserved : goal.loop-number-preserved
loop-number-preserved c =
    let rule = c.args.rule.now in
    let rows = vec_items rule.table.rows in
    let here = (goal.at.loop-number-preserved c).In-Some in
    record {
      back = back_more rows (vec_items rule.homes) rule.placed c.loop-number.number-iterator c.next.new.self c.loop-number.invariant.back c.in-Some.number c.in-Some.row c.in-Some.home c.in-Some.ensures.steps;
      left = falling_more gate_step gate_grows rows (after_gates rows) _ (drafted c.loop-number.self) (turn here) (left here) c.write_gate.ensures;
    }

pub returns : goal.returns
returns c =
    let rule = c.args.rule.now in
    let rows = vec_items rule.table.rows in
    let none = back_end rows (vec_items rule.homes) rule.placed c.loop-number.number-iterator c.next.new.self c.loop-number.invariant.back c.in-None.ensures.steps in
    falling_end gate_step gate_grows rows (after_gates rows) (length (rows_left c.loop-number.number-iterator)) (drafted c.loop-number.self) (omega arith) c.loop-number.invariant.left
