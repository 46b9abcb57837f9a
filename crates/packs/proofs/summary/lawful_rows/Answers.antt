use Rattle.std.proofs.Common.{length, vec_items, sym, ap, ◌∙◌, rules}
use Rattle.packs.specs.Summary.{rows_by, refused_by, lawful_rows_in, is_refused}
use Rattle.packs.proofs.summary.lawful_rows.Goals as goal

pub returns-in-Ok : goal.returns-in-Ok
unfolding lawful_rows_in is_refused
returns-in-Ok c =
    let read = c.in-Ok.ensures.value in
    let table = c.args.table.now in (
      ap refused_by read.0,
      c.len.ensures ∙ ap (λ t. length (vec_items t.rows)) c.table.ensures ∙ ap length read.1.0.rows ∙ sym (ap (rows_by table) read.0),
      search rules,
    )

pub returns-in-Err : goal.returns-in-Err
unfolding lawful_rows_in is_refused
returns-in-Err c = (ap refused_by c.in-Err.ensures.value, ap (rows_by c.args.table.now) c.in-Err.ensures.value)
