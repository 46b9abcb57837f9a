use Rattle.std.proofs.Common.{◌≡◌, ◌<◌, false, cond, ltb, length, get_or, None, vec_items, sym, ap, ◌∙◌, arith}
use Rattle.std.proofs.lemmas.Bool.{le-ltb}
use Rattle.sessions.specs.States.{no_state}
use Rattle.meaning.proofs.Satisfaction.{satisfaction}
use Rattle.scopes.specs.Answered.{scope_answer}
use Rattle.scopes.proofs.Rules.{ruled}
use Rattle.scopes.proofs.Answering.{same_answer, answer_here, holds_alone}
use Rattle.scopes.proofs.rule.in_scope_at.Goals as goal

pub returns-then-position-len : goal.returns-then-position-len
returns-then-position-len g c =
    let rows = vec_items c.args.rule.now.table.rows in
    let w = g.S.Session.states c.args.session.now in
    let past : ltb c.args.position (length w) ≡ false = le-ltb c.args.position (length w) (omega (arith, c.len.ensures)) in
    record {
      value = sym (ap (λ b. cond b (scope_answer rows c.args.in_row (get_or w c.args.position no_state)) None) past);
      alone = tt;
      logic = satisfaction rows w;
    }

pub returns : goal.returns
returns g c =
    let rule = c.args.rule.now in
    let rows = vec_items rule.table.rows in
    let w = g.S.Session.states c.args.session.now in
    let k = c.args.in_row in
    let i = c.args.position in
    let within : i < length w = omega (arith, c.len.ensures) in
    let lawful = ruled rule.table.flags rule.table.codes rows rule.lawful rule.checked in
    let here = c.in_scope.ensures ∙ same_answer rows lawful k c.state_at.result (get_or w i no_state) c.state_at.ensures.flags in
    record { value = here ∙ sym (answer_here rows k w i within); alone = holds_alone rows k w i c.in_scope.result here; logic = satisfaction rows w }
