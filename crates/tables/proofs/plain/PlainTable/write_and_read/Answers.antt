use Rattle.tables.specs.Faults.{plain_bytes_fault}
use Rattle.tables.proofs.Both.{read_again, front_is}
use Rattle.tables.proofs.plain.PlainTable.write_and_read.Goals as goal

pub returns : goal.returns
returns c =
    let told = c.in_ok-end.ensures in
    let t = c.args.self.now.table in
    let both = told.value.1.1 in
    record {
      value = read_again (λ again. again.table) plain_bytes_fault t _ _ c.read.result both (front_is t plain_bytes_fault c.args.buffer.now _ _ both told.value.1.0 told.value.0 told.after) told.value.0 c.read.ensures;
      after = told.after;
    }
