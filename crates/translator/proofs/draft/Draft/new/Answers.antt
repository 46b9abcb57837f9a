use Rattle.std.proofs.Common.{length, vec_items}
use Rattle.translator.proofs.Standings.{none_known}
use Rattle.translator.proofs.draft.Draft.new.Goals as goal

pub returns : goal.returns
returns c =
    let rule = c.args.rule.now in
    none_known (length (vec_items rule.table.rows)) _ (vec_items c.into_list.result) (vec_items c.filled.result) c.default.result c.len.ensures rule.few c.into_list.ensures.empty c.filled.ensures.items c.default.ensures
