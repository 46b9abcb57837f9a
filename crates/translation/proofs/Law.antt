-- The last row of the translation means what the last row of the rule means, on every scale and session.
use Rattle.std.proofs.Common.{◌≡◌, ℕ, ◌-◌, true, List, length, ap, ◌∙◌}
use Rattle.meaning.specs.Formulas.{formula_at}
use Rattle.meaning.specs.Meaning.{mark, row_mark}
use Rattle.meaning.proofs.Gating.{plain_mark}
use Rattle.rows.specs.declared.row.Row.{Row}
use Rattle.scales.specs.Lattice.{Lattice, Laws}
use Rattle.sessions.specs.declared.state.State.{State}
use Rattle.tables.specs.Lawful.{lawful_rows, lawful_rule}
use Rattle.tables.specs.declared.form.Form.TheVariants.{Rule}
use Rattle.translation.specs.Translation.{translated}
use Rattle.scopes.proofs.Scopes.{last_scoped}
use Rattle.translation.proofs.Translating.{translated_last}

pub translated_mark : {M : Type 0} (L : Lattice M) → Laws L → (flags codes : ℕ) (rows : List Row) → lawful_rows Rule flags codes rows ≡ true → lawful_rule rows ≡ true → (w : List State) → row_mark L (translated rows) (length (translated rows) - 1) w ≡ row_mark L rows (length rows - 1) w
translated_mark L laws flags codes rows fine rule w =
    ap (λ a. mark L a w) (translated_last flags codes rows fine rule)
    ∙ plain_mark L laws (formula_at rows (length rows - 1)) (last_scoped flags codes rows fine rule) w
