use Rattle.refusals.proofs.Exits.{weaker}
use Rattle.tables.proofs.Both.{rule_both}
use Rattle.tables.proofs.rule.Rule.write.Goals as goal

pub returns : goal.returns
returns c = record {
  value = weaker _ _ (λ n is. (is, rule_both c.args.self.now.table c.args.self.now.lawful c.args.self.now.checked)) c.write.ensures.value;
  after = c.write.ensures.after;
}
