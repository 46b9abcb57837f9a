use Rattle.std.proofs.Common.{length, vec_items, ap, ◌∙◌, arith}
use Rattle.tables.specs.Lawful.{lawful_rows}
use Rattle.tables.specs.declared.form.Form.TheVariants.{Plain}
use Rattle.translation.proofs.Count.{translated_count}
use Rattle.translation.proofs.Lawfulness.{translated_lawful}
use Rattle.translator.specs.Drafts.{drafted}
use Rattle.translator.proofs.Turns.{rows_written}
use Rattle.translator.proofs.plain.translate.Goals as goal

pub invariant_of-result-clause-lawful : goal.invariant_of-result-clause-lawful
invariant_of-result-clause-lawful c =
    let rule = c.args.rule.now in
    let rows = vec_items rule.table.rows in
    let written = rows_written rows (drafted c.write_rows.new.self) c.write_rows.ensures in
    ap (lawful_rows Plain rule.table.flags rule.table.codes) written ∙ translated_lawful rule.table.flags rule.table.codes rows rule.lawful rule.checked

pub returns-clause-rows : goal.returns-clause-rows
returns-clause-rows c = rows_written (vec_items c.args.rule.now.table.rows) (drafted c.write_rows.new.self) c.write_rows.ensures

pub returns-clause-told : goal.returns-clause-told
returns-clause-told c =
    let written = rows_written (vec_items c.args.rule.now.table.rows) (drafted c.write_rows.new.self) c.write_rows.ensures in
    c.len-count.ensures ∙ c.write_rows.new.self.written.ok.0 ∙ ap length written

pub returns-clause-bound : goal.returns-clause-bound
returns-clause-bound c =
    let rows = vec_items c.args.rule.now.table.rows in
    let written = rows_written rows (drafted c.write_rows.new.self) c.write_rows.ensures in
    omega (arith, c.write_rows.new.self.written.ok.0, ap length written, translated_count rows)
