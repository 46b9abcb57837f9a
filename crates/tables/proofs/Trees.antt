-- Rows that pass the checks form a tree, so that every home is what its name says.
use Rattle.std.proofs.Common.{◌≡◌, ℕ, ◌-◌, ◌<◌, Bool, true, false, cond, not, ◌&&◌, ◌||◌, eqb, List, length, get_or, Some, None, refl, ap, ◌∙◌, ⊎_elim, arith, ltb-true, eqb-true}
use Rattle.std.proofs.lemmas.List.{get_or_past}
use Rattle.std.proofs.lemmas.Bool.{cases_lt, false≢true}
use Rattle.refusals.proofs.First.{then_second, each_none}
use Rattle.rows.specs.Homes.{homes, in_scope}
use Rattle.rows.specs.Kinds.{left_use, right_use, is_in, may_scope, zero_kept, number_kept, order_kept, names_row}
use Rattle.rows.specs.Reach.{Operand, Tree, Flat}
use Rattle.rows.specs.Rows.{blank, left_is, right_is, uses}
use Rattle.rows.specs.declared.home.Home.TheVariants.{Outside}
use Rattle.rows.specs.declared.kind.Kind.{Kind}
use Rattle.rows.specs.declared.kind.HalfUse.{HalfUse}
use Rattle.rows.specs.declared.kind.HalfUse.TheVariants.{Zero, FlagNumber, CodeNumber, Operand as OperandUse}
use Rattle.rows.specs.declared.row.Row.{Row}
use Rattle.rows.proofs.Walks.{home_at}
use Rattle.rows.proofs.Standing.{stands, scoped}
use Rattle.tables.specs.Faults.{size_fault, row_fault, use_fault, scope_kind_fault, one_use_fault, scope_kinds_fault}
use Rattle.tables.specs.Format.{knows, rows_of, stated_flags, stated_codes}
use Rattle.tables.specs.Lawful.{rows_fault}
use Rattle.tables.specs.Places.{Places}
use Rattle.tables.specs.declared.form.Form.{Form}
use Rattle.tables.specs.declared.form.Form.TheVariants.{Rule}
use Rattle.tables.specs.declared.fault.TableFault.{TableFault}
use Rattle.tables.specs.declared.fault.TableFault.TheVariants.{UnknownKind, HalfNotZero, NumberNotUsed, OperandNotBelow, NotOneUse, ScopeKind as ScopeKindFault}
use Rattle.tables.proofs.Sound.{table_lawful}

-- a half that names row i, and keeps the order, has i below its row
named_below : (of : HalfUse) (half j i : ℕ) → order_kept j of half ≡ true → names_row of half i ≡ true → i < j
named_below Zero half j i kept named = absurd (false≢true named)
named_below FlagNumber half j i kept named = absurd (false≢true named)
named_below CodeNumber half j i kept named = absurd (false≢true named)
named_below OperandUse half j i kept named = omega (arith, eqb-true half i named, ltb-true half j kept)

-- a row with no fault keeps the order in both halves
orders : (a b c d : Bool) (p q r s : TableFault) → cond a (cond b (cond c (cond d None (Some p)) (Some q)) (Some r)) (Some s) ≡ None → d ≡ true
orders a b c d p q r s e = grind arith

ordered : (form : Form) (flags codes j : ℕ) (r : Row) → row_fault form flags codes j r ≡ None → (i : ℕ) → (left_is r i || right_is r i) ≡ true → i < j
ordered form flags codes j r fine i operand =
    let left_of = left_use r.kind in
    let right_of = right_use r.kind in
    let both : (order_kept j left_of r.left && order_kept j right_of r.right) ≡ true = orders (knows form r.kind) (zero_kept left_of r.left && zero_kept right_of r.right) (number_kept flags codes left_of r.left && number_kept flags codes right_of r.right) (order_kept j left_of r.left && order_kept j right_of r.right) (OperandNotBelow j) (NumberNotUsed j) (HalfNotZero j) (UnknownKind j) fine in
    either (left_is r i) (right_is r i) (order_kept j left_of r.left) (order_kept j right_of r.right) operand both
    (λ kept named. named_below left_of r.left j i kept named) (λ kept named. named_below right_of r.right j i kept named)
  where
    either : (a b c d : Bool) → (a || b) ≡ true → (c && d) ≡ true → (c ≡ true → a ≡ true → i < j) → (d ≡ true → b ≡ true → i < j) → i < j
    either true b true d o k f g = f refl refl
    either true b false d o k f g = absurd (false≢true k)
    either false b true d o k f g = g k o
    either false b false d o k f g = absurd (false≢true k)

module _ (form : Form) (flags codes : ℕ) (rows : List Row) (fine : rows_fault form flags codes rows ≡ None) where
  -- operands are below their rows
  pub tree_below : (j i : ℕ) → Operand rows j i → i < j
  unfolding rows_fault
  tree_below j i operand =
      ⊎_elim
      (λ within. ordered form flags codes j (get_or rows j blank) (each_none (λ k. row_fault form flags codes k (get_or rows k blank)) 0 (length rows) (then_second (size_fault form (length rows) flags codes) _ fine) j (omega arith) (omega arith)) i operand)
      (λ past. absurd (false≢true (rw (get_or_past rows j blank past) at operand)))
      (cases_lt j (length rows))

module _ (form : Form) (flags codes : ℕ) (rows : List Row) (fine : rows_fault form flags codes rows ≡ None) (used : one_use_fault rows ≡ None) where
  one_use : (b : Bool) (f : TableFault) → cond b None (Some f) ≡ None → b ≡ true
  one_use b f e = grind arith

  pub tree : Tree rows
  tree = record {
    below = tree_below form flags codes rows fine;
    once = λ i next. eqb-true (uses rows i) 1 (one_use (eqb (uses rows i) 1) (NotOneUse i) (each_none (use_fault rows) 0 (length rows - 1) used i (omega arith) (omega arith)));
  }

-- an in row may not stand in a scope
not_both : (kind : Kind) (scope : Bool) (f : TableFault) → cond (scope && not (may_scope kind)) (Some f) None ≡ None → is_in kind ≡ true → scope ≡ true → ⊥
not_both kind scope f fine in_row is = let z : ◌≡◌ {A = ℕ} 0 1 = grind arith in absurd (omega arith)

pub flat : (rows : List Row) → scope_kinds_fault rows ≡ None → Flat rows
flat rows kinds i within in_row scope =
    not_both (get_or rows i blank).kind (in_scope (get_or (homes rows) i Outside)) (ScopeKindFault i) (each_none (scope_kind_fault rows (homes rows)) 0 (length rows) kinds i (omega arith) (omega arith)) in_row (ap in_scope (home_at rows (homes rows) i refl within) ∙ scope)

pub places : (bytes : List ℕ) → Places bytes
places bytes i within fine used =
    let is_tree = tree Rule (stated_flags bytes) (stated_codes bytes) (rows_of bytes) (table_lawful Rule bytes fine) used in
    (scoped (rows_of bytes) is_tree i within, λ kinds. stands (rows_of bytes) is_tree (flat (rows_of bytes) kinds) i within)
