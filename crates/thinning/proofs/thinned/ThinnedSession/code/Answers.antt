use Rattle.std.proofs.Common.{◌≡◌, pos, MatchOption, vec_items, ◌∙◌, w8, SFits, rules}
use Rattle.std.proofs.lemmas.Int.{to_z-of_z}
use Rattle.sessions.specs.States.{code_at}
use Rattle.thinning.proofs.Picked.{code_told}
use Rattle.thinning.proofs.thinned.ThinnedSession.code.Goals as goal

pub returns : goal.returns
returns g c =
    let w = g.S.Session.states c.args.self.now.session.now in
    let fits : SFits w8 c.map_or.result = search rules in
    let told : MatchOption c.below.result (c.map_or.result ≡ pos 0) (λ k. c.map_or.result ≡ code_at w k c.args.number) = search rules in
    to_z-of_z w8 c.map_or.result fits
    ∙ code_told w (vec_items c.args.self.now.positions) c.args.position c.args.number c.below.result c.below.ensures told
