use Rattle.std.proofs.Common.{length, vec_items}
use Rattle.translation.specs.Translation.{scope_step, after_scopes}
use Rattle.translator.specs.Drafts.{drafted}
use Rattle.translator.proofs.Turns.{RisingTo}
use Rattle.translator.proofs.draft.Draft.copy_scopes.Given as goal

abbrev pub invariant-loop-number : goal.invariant-loop-number
invariant-loop-number l =
    let rows = vec_items l.rule.table.rows in
    RisingTo scope_step rows (after_scopes rows) (length l.yielded) (drafted l.self)
