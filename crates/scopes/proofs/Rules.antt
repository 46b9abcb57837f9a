-- What is known of a lawful rule, row by row.
use Rattle.std.proofs.Common.{refl, ◌≡◌, ℕ, ◌<◌, Bool, true, cond, not, ◌&&◌, List, length, get_or, Some, None, ap, ◌∙◌, arith}
use Rattle.meaning.specs.Formulas.{formula_by, formula_at}
use Rattle.refusals.specs.First.{then}
use Rattle.refusals.proofs.First.{then_first, then_second, each_none}
use Rattle.rows.specs.Homes.{home, homes, in_scope}
use Rattle.rows.specs.Kinds.{may_scope}
use Rattle.rows.specs.Rows.{blank}
use Rattle.rows.specs.declared.home.Home.TheVariants.{Outside}
use Rattle.rows.specs.declared.kind.HalfUse.TheVariants.{Operand as OperandUse}
use Rattle.rows.specs.declared.kind.Kind.{Kind}
use Rattle.rows.specs.declared.row.Row.{Row}
use Rattle.tables.specs.Faults.{size_fault, row_fault, one_use_fault, scope_kinds_fault, scope_sizes_fault, rule_fault}
use Rattle.tables.specs.Lawful.{rows_fault, lawful_rows, lawful_rule}
use Rattle.tables.specs.declared.fault.TableFault.{TableFault}
use Rattle.tables.specs.declared.fault.TableFault.TheVariants.{ScopeKind as ScopeKindFault}
use Rattle.tables.specs.declared.form.Form.TheVariants.{Rule}
use Rattle.tables.proofs.Sound.{none_is, fine_sizes}
use Rattle.tables.proofs.Trees.{tree, flat}
use Rattle.scopes.specs.Ruled.{Ruled}
use Rattle.meaning.proofs.Formulas.{formula_row}
use Rattle.rows.proofs.Walks.{home_at}
use Rattle.rows.proofs.Halves.{half, half_use, half_operand, named_half}
use Rattle.rows.proofs.Operands.{operand_home}
use Rattle.rows.proofs.Parents.{given}

may : (kind : Kind) (scope : Bool) (f : TableFault) → cond (scope && not (may_scope kind)) (Some f) None ≡ None → scope ≡ true → may_scope kind ≡ true
may kind scope f fine is = grind arith

module _ (flags codes : ℕ) (rows : List Row) (fine : lawful_rows Rule flags codes rows ≡ true) (rule : lawful_rule rows ≡ true) where
  rows_fine : rows_fault Rule flags codes rows ≡ None
  unfolding lawful_rows
  rows_fine = none_is (rows_fault Rule flags codes rows) fine

  rule_fine : then (one_use_fault rows) (then (scope_kinds_fault rows) (scope_sizes_fault rows)) ≡ None
  unfolding lawful_rule rule_fault
  rule_fine = none_is (rule_fault rows) rule

  kinds_fine : scope_kinds_fault rows ≡ None
  kinds_fine = then_first (scope_kinds_fault rows) _ (then_second (one_use_fault rows) _ rule_fine)

  pub ruled : Ruled rows
  ruled = record {
    tree = tree Rule flags codes rows rows_fine (then_first (one_use_fault rows) _ rule_fine);
    flat = flat rows kinds_fine;
    scopes = λ i within scope. may (get_or rows i blank).kind (in_scope (get_or (homes rows) i Outside)) (ScopeKindFault i) (each_none (λ k. cond (in_scope (get_or (homes rows) k Outside) && not (may_scope (get_or rows k blank).kind)) (Some (ScopeKindFault k)) None) 0 (length rows) kinds_fine i (omega arith) (omega arith)) (ap in_scope (home_at rows (homes rows) i refl within) ∙ scope);
    some = (fine_sizes Rule flags codes rows fine).0;
  }

  pub each_fine : (i : ℕ) → i < length rows → row_fault Rule flags codes i (get_or rows i blank) ≡ None
  unfolding rows_fault
  each_fine i within = each_none (λ k. row_fault Rule flags codes k (get_or rows k blank)) 0 (length rows) (then_second (size_fault Rule (length rows) flags codes) _ rows_fine) i (omega arith) (omega arith)

module _ {rows : List Row} (ruled : Ruled rows) where
  -- an operand is below its row, and stands where the row puts it
  pub operand_below : (side : Bool) (i : ℕ) → half_use side (get_or rows i blank).kind ≡ OperandUse → half side (get_or rows i blank) < i
  operand_below side i is =
      let r = get_or rows i blank in
      ruled.tree.below i (half side r) (half_operand side r (half side r) (named_half side r is))

  pub operand_stands : (side : Bool) (i : ℕ) → half_use side (get_or rows i blank).kind ≡ OperandUse → home rows (half side (get_or rows i blank)) ≡ given side (get_or rows i blank).kind i (home rows i)
  operand_stands side i is =
      let r = get_or rows i blank in
      operand_home rows ruled.tree side i (half side r) (named_half side r is)

  pub rule_formula : (i : ℕ) → i < length rows → formula_at rows i ≡ formula_by (get_or rows i blank).kind (get_or rows i blank).left (get_or rows i blank).right (formula_at rows (get_or rows i blank).left) (formula_at rows (get_or rows i blank).right)
  rule_formula i within = formula_row rows i within (λ j operand. ruled.tree.below i j operand)
