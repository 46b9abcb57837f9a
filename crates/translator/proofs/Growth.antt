-- No step takes a row away.
use Rattle.std.proofs.Common.{ℕ, ◌≤◌, [], ◌∷◌, ◌++◌, length, get_or, arith}
use Rattle.std.proofs.lemmas.List.{length-append}
use Rattle.std.proofs.lemmas.Bool.{cond_both}
use Rattle.rows.specs.Homes.{in_scope}
use Rattle.rows.specs.Kinds.{is_in}
use Rattle.rows.specs.declared.home.Home.{Home}
use Rattle.rows.specs.declared.home.Home.TheVariants.{Outside, Body, Scope}
use Rattle.rows.specs.declared.kind.Kind.TheVariants.{And, Not}
use Rattle.rows.specs.declared.row.Row.{Row}
use Rattle.translation.specs.Translation.{Draft, place_of, one_operand, two_operands, copied, scope_step, gate_at, gate_step, passed_on, in_body, write_step}
use Rattle.translator.specs.Drafts.{copy_of, rows_for}

abbrev pub count : Draft → ℕ
count d = length d.written

-- draft e has the rows of draft d, or more
abbrev pub Grown : Draft → Draft → Type 0
Grown d e = count d ≤ count e

pub scope_grows : (h : Home) (i : ℕ) (r : Row) (d : Draft) → Grown d (scope_step h i r d)
scope_grows h i r d =
    cond_both (in_scope h) (copied i r d) d (Grown d) (λ scope. omega (arith, length-append d.written (copy_of r d ∷ []))) (λ out. omega arith)

pub gate_grows : (h : Home) (i : ℕ) (r : Row) (d : Draft) → Grown d (gate_step h i r d)
gate_grows h i r d = cond_both (is_in r.kind) (gate_at h i r d) d (Grown d) (λ in_row. at_home h) (λ not_in. omega arith)
  where
    at_home : (h : Home) → Grown d (gate_at h i r d)
    at_home Outside = omega (arith, length-append d.written (one_operand Not (place_of d r.right) ∷ []))
    at_home (Body k) =
        let gate = two_operands And (get_or d.gates k 0) (place_of d r.right) ∷ [] in
        omega (arith, length-append d.written gate, length-append (d.written ++ gate) (one_operand Not (count d) ∷ []))
    at_home (Scope k) = omega arith

pub write_grows : (h : Home) (i : ℕ) (r : Row) (d : Draft) → Grown d (write_step h i r d)
write_grows Outside i r d =
    cond_both (is_in r.kind) (passed_on i r d) (copied i r d) (Grown d) (λ in_row. omega arith) (λ not_in. omega (arith, length-append d.written (copy_of r d ∷ [])))
write_grows (Body k) i r d =
    cond_both (is_in r.kind) (passed_on i r d) (in_body k i r d) (Grown d) (λ in_row. omega arith) (λ not_in. omega (arith, length-append d.written (rows_for k r d)))
write_grows (Scope k) i r d = omega arith
