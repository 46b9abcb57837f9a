use Rattle.std.proofs.Common.{length, vec_items, sym, subst, arith}
use Rattle.std.proofs.lemmas.List.{length_push}
use Rattle.translation.specs.Translation.{scope_step, after_scopes}
use Rattle.translator.specs.Drafts.{drafted}
use Rattle.translator.proofs.Growth.{scope_grows}
use Rattle.rows.proofs.Walks.{Turn, front_turn, front_end}
use Rattle.translator.proofs.Turns.{RisingTo, scopes_start, scopes_few, rising_room, rising_more, rising_end}
use Rattle.translator.proofs.draft.Draft.copy_scopes.Goals as goal
use Rattle.translator.proofs.draft.Draft.copy_scopes.Goals.{In-Some}

turn : (c : In-Some) → Turn (vec_items c.args.rule.now.table.rows) (length c.loop-number.yielded) c.in-Some.number c.in-Some.row.now c.in-Some.home.now
turn c =
    let rule = c.args.rule.now in
    front_turn (vec_items rule.table.rows) (vec_items rule.homes) rule.placed c.into_iter-number-iterator.result (cc, cc, cc) c.loop-number.yielded c.loop-number.number-iterator c.loop-number.yielded_by c.next.new.self c.in-Some.number c.in-Some.row c.in-Some.home c.in-Some.ensures.steps

pub loop-number-init : goal.loop-number-init
loop-number-init c = scopes_start (vec_items c.args.rule.now.table.rows) c.requires

pub copy_scope-requires : goal.copy_scope-requires
copy_scope-requires c =
    let rule = c.args.rule.now in
    let rows = vec_items rule.table.rows in
    omega (arith, rising_room scope_step scope_grows rows (after_scopes rows) _ (drafted c.loop-number.self) (turn (goal.at.copy_scope-requires c).In-Some) c.loop-number.invariant, scopes_few rows rule.few)

pub loop-number-preserved : goal.loop-number-preserved
loop-number-preserved c =
    let rows = vec_items c.args.rule.now.table.rows in
    subst (λ n. RisingTo scope_step rows (after_scopes rows) n (drafted c.copy_scope.new.self)) (sym (length_push c.loop-number.yielded _))
    (rising_more scope_step scope_grows rows (after_scopes rows) _ (drafted c.loop-number.self) (turn (goal.at.loop-number-preserved c).In-Some) c.loop-number.invariant c.copy_scope.ensures)

pub returns : goal.returns
returns c =
    let rule = c.args.rule.now in
    let rows = vec_items rule.table.rows in
    let ended = front_end rows (vec_items rule.homes) rule.placed c.into_iter-number-iterator.result (cc, cc, cc) c.loop-number.yielded c.loop-number.number-iterator c.loop-number.yielded_by c.next.new.self c.in-None.ensures.steps in
    rising_end scope_step scope_grows rows (after_scopes rows) (length c.loop-number.yielded) (drafted c.loop-number.self) ended c.loop-number.invariant
