use Rattle.std.proofs.Common.{rules}
use Rattle.tables.proofs.Trees.{places}
use Rattle.tables.proofs.rule.Rule.read.Goals as goal

pub returns : goal.returns
returns c = record { value = search rules; places = places c.args.bytes.now }
