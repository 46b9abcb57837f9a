use Rattle.std.proofs.Common.{◌+◌, ◌++◌, drop, refl, ap, ◌∙◌}
use Rattle.rows.specs.Rows.{blank}
use Rattle.report.specs.Plain.{row_line, row_lines, table_lines}
use Rattle.report.proofs.Lines.{numbered_more, numbered_done}
use Rattle.report.proofs.plain.lines.Goals as goal

pub loop-number-preserved : goal.loop-number-preserved
loop-number-preserved c =
    let rows = c.deref-row-items.result.now in
    let i = c.loop-number.number in
    ap (λ text. text ++ row_lines (i + 1) (drop (i + 1) rows)) c.in_ok-append_row_line.ensures
    ∙ numbered_more row_line _ _ _ i rows blank c.loop-number-test.true refl c.loop-number.invariant

pub returns : goal.returns
returns c =
    let table = c.args.table.now in
    numbered_done row_line _ _ c.loop-number.number c.deref-row-items.result.now c.loop-number-test.false c.loop-number.invariant
    ∙ ap (table_lines table.flags table.codes) c.deref-row-items.ensures.value
