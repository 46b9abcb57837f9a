use Rattle.std.proofs.Common.{length, vec_items}
use Rattle.translation.specs.Translation.{write_step, after_rows}
use Rattle.translator.specs.Drafts.{drafted}
use Rattle.translator.proofs.Turns.{RisingTo}
use Rattle.translator.proofs.draft.Draft.write_rows.Given as goal

abbrev pub invariant-loop-number : goal.invariant-loop-number
invariant-loop-number l =
    let rows = vec_items l.rule.table.rows in
    RisingTo write_step rows (after_rows rows) (length l.yielded) (drafted l.self)
