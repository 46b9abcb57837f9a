use Rattle.std.proofs.Common.{ℕ, ◌≤◌, get_or, refl, ◌∙◌, rules}
use Rattle.translation.specs.Counts.{body_counts}
use Rattle.translation.proofs.Count.{translated_count}
use Rattle.translation.proofs.Table.{body_length, entry_at_most}
use Rattle.translation.proofs.rows_in_body.Goals as goal

-- one test over the whole table
small : (i : ℕ) → get_or body_counts i 0 ≤ 5
small = entry_at_most 5 body_counts refl

pub returns : goal.returns
returns c = record {
  written = λ r n g b a d. body_length c.args.kind r n g b a d ∙ (search rules);
  bound = search small;
  five = translated_count;
}
