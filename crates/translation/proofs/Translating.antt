-- The last row of the translation shows the formula of the rule without its scopes.
use Rattle.std.proofs.Common.{◌≡◌, ℕ, ◌-◌, ◌<◌, true, List, length, sym, ap, ◌∙◌, inr, arith}
use Rattle.meaning.specs.Formulas.{formula_at}
use Rattle.meaning.specs.Gated.{plain}
use Rattle.rows.specs.declared.row.Row.{Row}
use Rattle.tables.specs.Lawful.{lawful_rows, lawful_rule}
use Rattle.tables.specs.declared.form.Form.TheVariants.{Rule}
use Rattle.translation.specs.Translation.{after_rows, translated}
use Rattle.translation.proofs.Kept.{rows_kept}
use Rattle.translation.proofs.Last.{last_place}
use Rattle.rows.proofs.Operands.{last_outside}
use Rattle.scopes.specs.Ruled.{Ruled}
use Rattle.scopes.proofs.Rules.{ruled}
use Rattle.translation.proofs.Shows.{Ends}
use Rattle.translation.proofs.Wanted.{gate_formula, wanted_at}

ruled_last : {rows : List Row} → Ruled rows → Ends (translated rows) (plain (formula_at rows (length rows - 1)))
unfolding translated
ruled_last {rows} lawful =
    let last = length rows - 1 in
    let some = lawful.some in
    let shown = (rows_kept lawful).results last (omega arith, inr (omega arith)) in
    let here = last_place lawful in
    let plainly = ap (λ h. wanted_at (gate_formula rows) h (formula_at rows last)) (last_outside rows lawful.tree last (omega arith)) in
    record {
      low = omega (arith, shown.low);
      is = ap (formula_at (after_rows rows).written) (sym here) ∙ shown.is ∙ plainly;
    }

module _ (flags codes : ℕ) (rows : List Row) (fine : lawful_rows Rule flags codes rows ≡ true) (rule : lawful_rule rows ≡ true) where
  pub translated_last : formula_at (translated rows) (length (translated rows) - 1) ≡ plain (formula_at rows (length rows - 1))
  translated_last = (ruled_last (ruled flags codes rows fine rule)).is

  pub translated_some : 0 < length (translated rows)
  translated_some = let shown = ruled_last (ruled flags codes rows fine rule) in omega (arith, shown.low)
