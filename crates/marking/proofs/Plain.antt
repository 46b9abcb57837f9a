-- The rows of a lawful plain table are sound, and none is an in row.
use Rattle.std.proofs.Common.{◌≡◌, ℕ, ◌<◌, Bool, true, false, cond, not, ◌&&◌, List, length, get_or, Some, None, vec_items, Option, sym, refl, ap, ◌∙◌, subst, arith}
use Rattle.std.proofs.lemmas.Bool.{ltb-true, and_parts, not-true}
use Rattle.rows.specs.Kinds.{left_use, right_use, is_in, zero_kept, number_kept, order_kept}
use Rattle.rows.specs.Rows.{blank}
use Rattle.rows.specs.declared.kind.HalfUse.{HalfUse}
use Rattle.rows.specs.declared.kind.HalfUse.TheVariants.{Operand as OperandUse}
use Rattle.rows.specs.declared.row.Row.{Row}
use Rattle.refusals.specs.First.{first_from}
use Rattle.refusals.proofs.First.{then_second, each_none}
use Rattle.tables.specs.Faults.{row_fault, size_fault}
use Rattle.tables.specs.Lawful.{rows_fault, lawful_rows}
use Rattle.tables.specs.declared.plain.PlainTable.{PlainTable}
use Rattle.tables.specs.declared.table.Table.{Table}
use Rattle.tables.specs.declared.form.Form.TheVariants.{Plain}
use Rattle.tables.specs.declared.fault.TableFault.{TableFault}
use Rattle.tables.specs.declared.fault.TableFault.TheVariants.{UnknownKind, HalfNotZero, NumberNotUsed, OperandNotBelow}
use Rattle.tables.proofs.Sound.{none_is, fine_sizes}
use Rattle.marking.specs.Marks.{Fits, Sound, NoIn}
use Rattle.marking.proofs.Single.{fits_by}

-- what a test says that leads to a fault where it fails, where there is none
passed : (b : Bool) (o : Option TableFault) (f : TableFault) → cond b o (Some f) ≡ None → (b ≡ true) × (o ≡ None)
passed true o f e = (refl, e)
passed false o f e = let z : ◌≡◌ {A = ℕ} 0 1 = cc in absurd (omega arith)

-- an operand in order is below its row
in_order : (i half : ℕ) (of : HalfUse) → order_kept i of half ≡ true → of ≡ OperandUse → half < i
in_order i half of kept is = ltb-true half i (ap (λ u. order_kept i u half) (sym is) ∙ kept)

row_fits : (flags codes i : ℕ) (row : Row) → row_fault Plain flags codes i row ≡ None → Fits row.kind i row.left row.right × (is_in row.kind ≡ false)
row_fits flags codes i row fine =
    let l = left_use row.kind in
    let r = right_use row.kind in
    let zeros = zero_kept l row.left && zero_kept r row.right in
    let numbers = number_kept flags codes l row.left && number_kept flags codes r row.right in
    let order = order_kept i l row.left && order_kept i r row.right in
    let ordered = cond order None (Some (OperandNotBelow i)) in
    let numbered = cond numbers ordered (Some (NumberNotUsed i)) in
    let known = passed (not (is_in row.kind)) (cond zeros numbered (Some (HalfNotZero i))) (UnknownKind i) fine in
    let past_zeros = passed zeros numbered (HalfNotZero i) known.1 in
    let past_numbers = passed numbers ordered (NumberNotUsed i) past_zeros.1 in
    let kept = passed order None (OperandNotBelow i) past_numbers.1 in
    let halves = and_parts (order_kept i l row.left) (order_kept i r row.right) kept.0 in
    (fits_by row.kind i row.left row.right (in_order i row.left l halves.0) (in_order i row.right r halves.1), not-true (is_in row.kind) known.0)

each_fits : (flags codes : ℕ) (rows : List Row) → lawful_rows Plain flags codes rows ≡ true → (i : ℕ) → i < length rows → Fits (get_or rows i blank).kind i (get_or rows i blank).left (get_or rows i blank).right × (is_in (get_or rows i blank).kind ≡ false)
unfolding lawful_rows rows_fault
each_fits flags codes rows lawful i within =
    let at : ℕ → Option TableFault = λ k. row_fault Plain flags codes k (get_or rows k blank) in
    let none = then_second (size_fault Plain (length rows) flags codes) (first_from at 0 (length rows)) (none_is (rows_fault Plain flags codes rows) lawful) in
    row_fits flags codes i (get_or rows i blank) (each_none at 0 (length rows) none i (omega arith) (omega arith))

plain_sound : (flags codes : ℕ) (rows : List Row) → lawful_rows Plain flags codes rows ≡ true → Sound rows × NoIn rows
plain_sound flags codes rows lawful = ((λ i within. (each_fits flags codes rows lawful i within).0), (λ i within. (each_fits flags codes rows lawful i within).1))

-- the rows of a plain table, as the code reaches them
module _ (plain : PlainTable) (table : Table) (rows : List Row) (slice_is : rows ≡ vec_items table.rows) (table_is : table ≡ plain.table) where
  pub rows_are : rows ≡ vec_items plain.table.rows
  rows_are = slice_is ∙ ap (λ t. vec_items t.rows) table_is

  pub rows_sound : Sound rows × NoIn rows
  rows_sound = subst (λ r. Sound r × NoIn r) (sym rows_are) (plain_sound plain.table.flags plain.table.codes (vec_items plain.table.rows) plain.lawful)

  pub some_rows : 0 < length rows
  some_rows = subst (λ r. 0 < length r) (sym rows_are) (fine_sizes Plain plain.table.flags plain.table.codes (vec_items plain.table.rows) plain.lawful).0
