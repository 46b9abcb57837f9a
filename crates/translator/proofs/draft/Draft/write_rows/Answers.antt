use Rattle.std.proofs.Common.{length, vec_items, sym, subst, arith}
use Rattle.std.proofs.lemmas.List.{length_push}
use Rattle.translation.specs.Translation.{write_step, after_rows}
use Rattle.translator.specs.Drafts.{drafted}
use Rattle.translator.proofs.Growth.{write_grows}
use Rattle.rows.proofs.Walks.{Turn, front_turn, front_end}
use Rattle.translator.proofs.Turns.{RisingTo, rows_start, rows_few, rising_room, rising_more, rising_end}
use Rattle.translator.proofs.draft.Draft.write_rows.Goals as goal
use Rattle.translator.proofs.draft.Draft.write_rows.Goals.{In-Some}

turn : (c : In-Some) → Turn (vec_items c.args.rule.now.table.rows) (length c.loop-number.yielded) c.in-Some.number c.in-Some.row.now c.in-Some.home.now
turn c =
    let rule = c.args.rule.now in
    front_turn (vec_items rule.table.rows) (vec_items rule.homes) rule.placed c.into_iter-number-iterator.result (cc, cc, cc) c.loop-number.yielded c.loop-number.number-iterator c.loop-number.yielded_by c.next.new.self c.in-Some.number c.in-Some.row c.in-Some.home c.in-Some.ensures.steps

pub loop-number-init : goal.loop-number-init
loop-number-init c = rows_start (vec_items c.args.rule.now.table.rows) c.requires

pub write_row-requires : goal.write_row-requires
write_row-requires c =
    let rule = c.args.rule.now in
    let rows = vec_items rule.table.rows in
    omega (arith, rising_room write_step write_grows rows (after_rows rows) _ (drafted c.loop-number.self) (turn (goal.at.write_row-requires c).In-Some) c.loop-number.invariant, rows_few rows rule.few)

pub loop-number-preserved : goal.loop-number-preserved
loop-number-preserved c =
    let rows = vec_items c.args.rule.now.table.rows in
    subst (λ n. RisingTo write_step rows (after_rows rows) n (drafted c.write_row.new.self)) (sym (length_push c.loop-number.yielded _))
    (rising_more write_step write_grows rows (after_rows rows) _ (drafted c.loop-number.self) (turn (goal.at.loop-number-preserved c).In-Some) c.loop-number.invariant c.write_row.ensures)

pub returns : goal.returns
returns c =
    let rule = c.args.rule.now in
    let rows = vec_items rule.table.rows in
    let ended = front_end rows (vec_items rule.homes) rule.placed c.into_iter-number-iterator.result (cc, cc, cc) c.loop-number.yielded c.loop-number.number-iterator c.loop-number.yielded_by c.next.new.self c.in-None.ensures.steps in
    rising_end write_step write_grows rows (after_rows rows) (length c.loop-number.yielded) (drafted c.loop-number.self) ended c.loop-number.invariant
