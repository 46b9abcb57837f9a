use Rattle.std.proofs.Common.{◌++◌, length, vec_items, string_bytes, ap, ◌∙◌, subst}
use Rattle.std.proofs.lemmas.Result.{on_ok_weaker}
use Rattle.packs.specs.Reader.{Loaded}
use Rattle.report.specs.Lines.{rule_line, refused_line}
use Rattle.report.proofs.Lines.{lawful_line, faulty_line}
use Rattle.report.proofs.listing.append_next.Goals as goal

pub returns-in-Ok-Some-clause-value : goal.returns-in-Ok-Some-clause-value
returns-in-Ok-Some-clause-value c =
    let bytes = c.args.reader.now.pack.bytes.now in
    let k = c.args.reader.now.place in
    let told = c.in-Ok-Some.ensures.value in
    let loaded = subst (Loaded bytes k) c.in-Ok-Some.field-0-is told.1 in
    let rows = c.in-Ok-Some.rule.table in
    let line = (λ d. rule_line (c.requires.label d) (length (vec_items rows.rows)) rows.flags rows.codes) ∙ lawful_line bytes k c.requires.there rows told.0 loaded.1 in
    on_ok_weaker c.append_rule_line.result (λ e. e ∙ ap (λ l. string_bytes c.args.text.now ++ l) line) c.append_rule_line.ensures

pub returns-in-Err-clause-value : goal.returns-in-Err-clause-value
returns-in-Err-clause-value c =
    let bytes = c.args.reader.now.pack.bytes.now in
    let k = c.args.reader.now.place in
    let refusal = c.into.ensures in
    let line = (λ d. refused_line (c.requires.label d) (refusal d).number (refusal d).place) ∙ faulty_line bytes k c.requires.there c.in-Err.fault c.in-Err.ensures.value in
    on_ok_weaker c.append_refused_rule_line.result (λ e. e ∙ ap (λ l. string_bytes c.args.text.now ++ l) line) c.append_refused_rule_line.ensures
