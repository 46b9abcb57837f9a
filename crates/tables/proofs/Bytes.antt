-- Rows that are read from bytes.
use Rattle.std.proofs.Common.{◌≡◌, ℕ, ◌≤◌, cond, List, length, drop, Some, None, Option, sym, ap, ◌∙◌, le-ltb}
use Rattle.rows.specs.declared.kind.Kind.{Kind}
use Rattle.refusals.specs.First.{then, first_from}
use Rattle.tables.specs.Faults.{byte_row_fault, row_fault, size_fault, length_fault, fault_at, rest_fault, table_fault}
use Rattle.tables.specs.Format.{stated_rows, stated_flags, stated_codes}
use Rattle.tables.specs.declared.form.Form.{Form}
use Rattle.tables.specs.declared.fault.TableFault.{TableFault}
use Rattle.tables.specs.declared.fault.TableFault.TheVariants.{Short}

-- the fault of a row whose kind byte is a kind's number
pub known_fault : (form : Form) (flags codes i : ℕ) {known : Option Kind} {k : Kind} {l l' r r' : ℕ} {fault : Option TableFault} → Some k ≡ known → l ≡ l' → r ≡ r' → row_fault form flags codes i (record { kind = k; left = l; right = r }) ≡ fault → byte_row_fault form flags codes i known l' r' ≡ fault
known_fault form flags codes i is l_is r_is e = sym (λ d. byte_row_fault form flags codes i (is d) (l_is d) (r_is d)) ∙ e

-- the fault of a table with no fault in its sizes and its length is what row by row is found
pub sized_fault : (form : Form) (bytes rest : List ℕ) (n : ℕ) (out : Option TableFault) → 4 ≤ length bytes → n ≡ stated_rows bytes → rest ≡ drop 4 bytes → size_fault form n (stated_flags bytes) (stated_codes bytes) ≡ None → length_fault n (length rest) ≡ None → first_from (fault_at form n (stated_flags bytes) (stated_codes bytes) rest) 0 n ≡ out → table_fault form bytes ≡ out
sized_fault form bytes rest n out long n_is rest_is sizes_fine length_fine rows_say =
    let flags = stated_flags bytes in
    let codes = stated_codes bytes in
    let whole : List ℕ → ℕ → Option TableFault = λ r m. then (size_fault form m flags codes) (rest_fault form m flags codes r) in
    ap (λ b. cond b (Some Short) (whole (drop 4 bytes) (stated_rows bytes))) (le-ltb (length bytes) 4 long)
    ∙ sym (λ d. whole (rest_is d) (n_is d))
    ∙ ap (λ o. then o (rest_fault form n flags codes rest)) sizes_fine
    ∙ ap (λ o. then o (first_from (fault_at form n flags codes rest) 0 n)) length_fine
    ∙ rows_say
