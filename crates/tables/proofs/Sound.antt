-- The table that is read from bytes in which no fault is found is lawful.
use Rattle.std.proofs.Common.{◌≡◌, ℕ, ◌+◌, ◌*◌, ◌<◌, ◌≤◌, Bool, true, false, cond, ◌||◌, eqb, List, length, get_or, drop, Some, None, vec_items, Option, unwrap_or, refl, ap, ◌∙◌, arith, ltb-false, eqb-true}
use borrow.Author.Tests.{eqb-false}
use Rattle.std.proofs.lemmas.List.FromFn.{length-map-range_with_len, get_or-map-range_with_len}
use Rattle.rows.specs.Rows.{blank}
use Rattle.rows.specs.Kinds.{kind_of}
use Rattle.rows.specs.declared.kind.Kind.{Kind}
use Rattle.rows.specs.declared.kind.Kind.TheVariants.{Top}
use Rattle.rows.specs.declared.row.Row.{Row}
use Rattle.std.proofs.lemmas.Bool.{false≢true}
use Rattle.refusals.specs.First.{then, first_from}
use Rattle.tables.specs.Faults.{size_fault, length_fault, row_fault, byte_row_fault, fault_at, rest_fault, table_fault}
use Rattle.tables.specs.Format.{limit, stated_rows, stated_flags, stated_codes, row_at, rows_in, rows_of, left_at, right_at}
use Rattle.tables.specs.Lawful.{rows_fault, none_found, lawful_rows}
use Rattle.tables.specs.Reading.{Reads}
use Rattle.tables.specs.declared.table.Table.{Table}
use Rattle.tables.specs.declared.form.Form.{Form}
use Rattle.tables.specs.declared.fault.TableFault.{TableFault}
use Rattle.tables.specs.declared.fault.TableFault.TheVariants.{Short, RowCount, Length}
use Rattle.refusals.proofs.First.{then_first, then_second, first_none, each_none}

-- what a test that leads to a fault says where there is none
passed : (b : Bool) (f : TableFault) (o : Option TableFault) → cond b (Some f) o ≡ None → (b ≡ false) × (o ≡ None)
passed true f o e = let z : ◌≡◌ {A = ℕ} 0 1 = cc in absurd (omega arith)
passed false f o e = (refl, e)

no_length_fault : (b : Bool) → cond b None (Some Length) ≡ None → b ≡ true
no_length_fault b e = grind arith

neither : (a b : Bool) → (a || b) ≡ false → (a ≡ false) × (b ≡ false)
neither false b e = (refl, e)
neither true b e = let z : ◌≡◌ {A = ℕ} 0 1 = cc in absurd (omega arith)

sizes_fine : (form : Form) (n flags codes : ℕ) → size_fault form n flags codes ≡ None → (0 < n) × (n ≤ limit form)
sizes_fine form n flags codes e =
    let b = neither _ _ (passed _ RowCount _ e).0 in
    let some : (n ≡ 0) → ⊥ = eqb-false n 0 b.0 in
    (omega arith, ltb-false (limit form) n b.1)

module _ (form : Form) (bytes : List ℕ) (fine : table_fault form bytes ≡ None) where
  past_length : then (size_fault form (stated_rows bytes) (stated_flags bytes) (stated_codes bytes)) (rest_fault form (stated_rows bytes) (stated_flags bytes) (stated_codes bytes) (drop 4 bytes)) ≡ None
  past_length = (passed _ Short _ fine).1

  stated_fine : size_fault form (stated_rows bytes) (stated_flags bytes) (stated_codes bytes) ≡ None
  stated_fine = then_first _ _ past_length

  pub four_bytes : 4 ≤ length bytes
  four_bytes = ltb-false (length bytes) 4 (passed _ Short _ fine).0

  pub rest_long : length (drop 4 bytes) ≡ 5 * stated_rows bytes
  rest_long =
      let n = stated_rows bytes in
      let found = then_first (length_fault n (length (drop 4 bytes))) _ (then_second (size_fault form n (stated_flags bytes) (stated_codes bytes)) _ past_length) in
      eqb-true (length (drop 4 bytes)) (5 * n) (no_length_fault (eqb (length (drop 4 bytes)) (5 * n)) found)

  pub rows_fine : first_from (fault_at form (stated_rows bytes) (stated_flags bytes) (stated_codes bytes) (drop 4 bytes)) 0 (stated_rows bytes) ≡ None
  rows_fine = then_second (length_fault (stated_rows bytes) (length (drop 4 bytes))) _ (then_second (size_fault form (stated_rows bytes) (stated_flags bytes) (stated_codes bytes)) _ past_length)

pub length_rows : (bytes : List ℕ) → length (rows_of bytes) ≡ stated_rows bytes
unfolding rows_in
length_rows bytes = length-map-range_with_len (row_at (drop 4 bytes) (stated_rows bytes)) 0 (stated_rows bytes)

row_is : (bytes : List ℕ) (k : ℕ) → k < stated_rows bytes → get_or (rows_of bytes) k blank ≡ row_at (drop 4 bytes) (stated_rows bytes) k
unfolding rows_in
row_is bytes k within = get_or-map-range_with_len (row_at (drop 4 bytes) (stated_rows bytes)) 0 (stated_rows bytes) k k blank within (omega arith)

-- a row of bytes with no fault is a row with no fault
known_row : (form : Form) (flags codes i : ℕ) (known : Option Kind) (l r : ℕ) → byte_row_fault form flags codes i known l r ≡ None → row_fault form flags codes i (record { kind = unwrap_or known Top; left = l; right = r }) ≡ None
known_row form flags codes i None l r e = let z : ◌≡◌ {A = ℕ} 0 1 = cc in absurd (omega arith)
known_row form flags codes i (Some k) l r e = e

pub table_lawful : (form : Form) (bytes : List ℕ) → table_fault form bytes ≡ None → rows_fault form (stated_flags bytes) (stated_codes bytes) (rows_of bytes) ≡ None
unfolding rows_fault
table_lawful form bytes fine =
    let n = stated_rows bytes in
    let flags = stated_flags bytes in
    let codes = stated_codes bytes in
    let rest = drop 4 bytes in
    let at : ℕ → Option TableFault = λ i. row_fault form flags codes i (get_or (rows_of bytes) i blank) in
    let each : (k : ℕ) → 0 ≤ k → k < 0 + n → at k ≡ None = λ k low high.
    let within : k < n = omega arith in
    ap (row_fault form flags codes k) (row_is bytes k within)
    ∙ known_row form flags codes k (kind_of (get_or rest k 0)) (left_at rest n k) (right_at rest n k) (each_none (fault_at form n flags codes rest) 0 n (rows_fine form bytes fine) k low high) in
    ap (λ m. then (size_fault form m flags codes) (first_from at 0 m)) (length_rows bytes)
    ∙ ap (λ o. then o (first_from at 0 n)) (stated_fine form bytes fine)
    ∙ first_none at 0 n each

-- the same of the table that was read
pub read_fine : (form : Form) (bytes : List ℕ) (t : Table) → Reads bytes t → table_fault form bytes ≡ None → lawful_rows form t.flags t.codes (vec_items t.rows) ≡ true
unfolding lawful_rows
read_fine form bytes t reads fine = (λ d. none_found (rows_fault form (reads.flags d) (reads.codes d) (reads.rows d))) ∙ ap none_found (table_lawful form bytes fine)

pub none_is : (o : Option TableFault) → none_found o ≡ true → o ≡ None
none_is None e = refl
none_is (Some f) e = absurd (false≢true e)

-- the number of rows of a table whose rows are lawful one by one
pub fine_sizes : (form : Form) (flags codes : ℕ) (rows : List Row) → lawful_rows form flags codes rows ≡ true → (0 < length rows) × (length rows ≤ limit form)
unfolding lawful_rows rows_fault
fine_sizes form flags codes rows fine = sizes_fine form (length rows) flags codes (then_first _ _ (none_is (rows_fault form flags codes rows) fine))
