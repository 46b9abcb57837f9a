use Rattle.refusals.proofs.Exits.{weaker}
use Rattle.tables.proofs.Both.{plain_both}
use Rattle.tables.proofs.plain.PlainTable.write.Goals as goal

pub returns : goal.returns
returns c = record {
  value = weaker _ _ (λ n is. (is, plain_both c.args.self.now.table c.args.self.now.lawful)) c.write.ensures.value;
  after = c.write.ensures.after;
}
