use Rattle.std.proofs.Common.{◌≡◌, length, None, vec_items, ap, ◌∙◌, subst}
use Rattle.marking.specs.Strips.{strip_fault}
use Rattle.marking.proofs.Filling.{long_enough}
use Rattle.marking.proofs.Rules.{straight_is}
use Rattle.marking.proofs.strip.Strip.mark_rule.Goals as goal

pub returns-clause-strip : goal.returns-clause-strip
returns-clause-strip g c =
    let rows = vec_items c.args.rule.now.table.rows in
    let old = c.args.self.now.marks.now in
    let same = c.len.ensures ∙ ap (λ t. length (vec_items t.rows)) c.table.ensures in
    let fine : strip_fault (length rows) (length old) ≡ None = subst (λ n. strip_fault n (length old) ≡ None) same c.in_ok-check_len.ensures in
    straight_is g.M.Scale.ops rows (g.S.Session.states c.args.session.now) old c.mark_rule_rows.new.strip (long_enough (length rows) (length old) fine) c.mark_rule_rows.ensures.filled
