use Rattle.std.proofs.Common.{true, false, sym, refl, ◌∙◌}
use Rattle.rows.specs.Reach.{here}
use Rattle.scopes.proofs.Evaluated.{top_holds, flag_holds, not_answer, and_answer, or_answer, operand_root, no_other}
use Rattle.scopes.proofs.scope.+holds.Goals as goal

pub holds-requires : goal.holds-requires
holds-requires t c = operand_root c.args.rows.now c.args.number _ t c.requires true c.in-Not.is refl c.from-left.ensures c.decreases

pub holds-requires-in-And : goal.holds-requires-in-And
holds-requires-in-And t c = operand_root c.args.rows.now c.args.number _ t c.requires true c.in-And.is refl c.from-left.ensures c.decreases

pub holds-requires-in-And-2 : goal.holds-requires-in-And-2
holds-requires-in-And-2 t c = operand_root c.args.rows.now c.args.number _ t c.requires false c.in-And.is refl c.from-right.ensures c.decreases

pub holds-requires-in-Or : goal.holds-requires-in-Or
holds-requires-in-Or t c = operand_root c.args.rows.now c.args.number _ t c.requires true c.in-Or.is refl c.from-left.ensures c.decreases

pub holds-requires-in-Or-2 : goal.holds-requires-in-Or-2
holds-requires-in-Or-2 t c = operand_root c.args.rows.now c.args.number _ t c.requires false c.in-Or.is refl c.from-right.ensures c.decreases

pub returns-in-Top : goal.returns-in-Top
returns-in-Top t c = sym (top_holds c.args.rows.now c.args.number c.requires c.args.state.now c.in-Top.is)

pub returns-in-Flag : goal.returns-in-Flag
returns-in-Flag t c = c.has_flag.ensures ∙ sym (flag_holds c.args.rows.now c.args.number c.requires c.args.state.now c.in-Flag.is)

pub returns-in-Not : goal.returns-in-Not
returns-in-Not t c = not_answer c.args.rows.now c.args.number c.requires c.args.state.now _ _ c.from-left.ensures c.from-right.ensures c.in-Not.is c.holds.ensures

pub returns-in-And : goal.returns-in-And
returns-in-And t c = and_answer c.args.rows.now c.args.number c.requires c.args.state.now _ _ c.from-left.ensures c.from-right.ensures c.in-And.is c.holds-in-And.ensures c.holds-in-And-2.ensures

pub returns-in-Or : goal.returns-in-Or
returns-in-Or t c = or_answer c.args.rows.now c.args.number c.requires c.args.state.now _ _ c.from-left.ensures c.from-right.ensures c.in-Or.is c.holds-in-Or.ensures c.holds-in-Or-2.ensures

pub returns-in_default : goal.returns-in_default
returns-in_default t c =
    absurd (no_other _ (c.requires.kinds c.args.number here) c.in_default.not-Top c.in_default.not-Flag c.in_default.not-Not c.in_default.not-And c.in_default.not-Or)
