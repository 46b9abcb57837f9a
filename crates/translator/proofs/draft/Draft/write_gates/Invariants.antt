use Rattle.std.proofs.Common.{length, vec_items}
use Rattle.translation.specs.Translation.{gate_step, after_gates}
use Rattle.translator.specs.Drafts.{drafted}
use Rattle.translator.proofs.Pairs.{Back, rows_left}
use Rattle.translator.proofs.Turns.{FallingTo}
use Rattle.translator.proofs.draft.Draft.write_gates.Given as goal

abbrev pub invariant-loop-number : goal.invariant-loop-number
invariant-loop-number l =
    let rows = vec_items l.rule.table.rows in
    record {
      back : Back rows (vec_items l.rule.homes) l.number-iterator;
      left : FallingTo gate_step rows (after_gates rows) (length (rows_left l.number-iterator)) (drafted l.self);
    }
