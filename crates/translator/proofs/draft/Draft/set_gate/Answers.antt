use Rattle.std.proofs.Common.{vec_items}
use Rattle.translator.proofs.Standings.{gate_set}
use Rattle.translator.proofs.draft.Draft.set_gate.Goals as goal

pub returns-in-Some : goal.returns-in-Some
returns-in-Some c =
    let draft = c.args.self.now in
    gate_set (vec_items draft.written) (vec_items draft.standings) c.args.number c.in-Some.standing.now c.in-Some.ensures.value c.args.gate c.args.bar
