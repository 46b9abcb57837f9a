use Rattle.std.proofs.Common.{None, subst}
use Rattle.tables.specs.Reading.{Reads}
use Rattle.packs.proofs.Loads.{there, load_is}
use Rattle.packs.proofs.reader.PackReader.load.Goals as goal

pub returns-clause-value : goal.returns-clause-value
returns-clause-value c =
    let bytes = c.args.self.now.pack.bytes.now in
    let place = c.args.self.now.place in
    let read = c.in_ok-rule.ensures in
    let at = there bytes c.in-Some.table.now place c.in-Some.ensures in
    (load_is bytes c.in-Some.table.now place None c.in-Some.ensures read.0, (at.0, subst (λ t. Reads t c.in_ok-rule.rule.table) at.1 read.1))
