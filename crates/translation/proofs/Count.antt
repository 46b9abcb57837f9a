-- A translation has at most five rows for each rule row.
use Rattle.std.proofs.Common.{◌≡◌, ℕ, zero, suc, ◌+◌, ◌*◌, ◌≤◌, Bool, true, false, cond, List, [], ◌∷◌, ◌++◌, length, get_or, add-one, arith}
use Rattle.std.proofs.lemmas.List.{length-append, length_push}
use Rattle.rows.specs.Homes.{home, in_scope}
use Rattle.rows.specs.Kinds.{is_in}
use Rattle.rows.specs.Rows.{blank}
use Rattle.rows.specs.declared.home.Home.{Home}
use Rattle.rows.specs.declared.home.Home.TheVariants.{Outside, Body, Scope}
use Rattle.rows.specs.declared.kind.Kind.{Kind}
use Rattle.rows.specs.declared.kind.Kind.TheVariants.{Top, Flag, Code, Not, And, Or, Next, Until, Always, Eventually, In}
use Rattle.rows.specs.declared.row.Row.{Row}
use Rattle.translation.specs.Translation.{Draft, place_of, moved, one_operand, two_operands, body_rows, copied, scope_step, gate_at, gate_step, passed_on, in_body, write_step, empty_draft, after_scopes, after_gates, after_rows, translated}
use Rattle.translation.proofs.Loops.{rising_keeps, falling_keeps}

-- how many rows each step may write at a row
abbrev scope_cost : Home → ℕ
scope_cost h = cond (in_scope h) 1 0

abbrev gate_cost : Home → Bool → ℕ
gate_cost h in_row = cond in_row (cond (in_scope h) 0 2) 0

abbrev write_cost : Home → Bool → ℕ
write_cost h in_row = cond (in_scope h) 0 (cond in_row 0 5)

cost_small : (h : Home) (in_row : Bool) → scope_cost h + gate_cost h in_row + write_cost h in_row ≤ 5
cost_small h in_row = grind arith

scope_count : (h : Home) (i : ℕ) (r : Row) (d : Draft) → length (scope_step h i r d).written ≤ length d.written + scope_cost h
scope_count Outside i r d = omega arith
scope_count (Body k) i r d = omega arith
scope_count (Scope k) i r d = omega (arith, length_push d.written (moved r (place_of d r.left) (place_of d r.right)))

gate_count : (h : Home) (i : ℕ) (r : Row) (d : Draft) → length (gate_step h i r d).written ≤ length d.written + gate_cost h (is_in r.kind)
gate_count h i r d = go (is_in r.kind) h
  where
    go : (in_row : Bool) (h : Home) → length (cond in_row (gate_at h i r d) d).written ≤ length d.written + gate_cost h in_row
    go false h = omega arith
    go true Outside = omega (arith, length_push d.written (one_operand Not (place_of d r.right)))
    go true (Body k) =
        let w1 = d.written ++ (two_operands And (get_or d.gates k 0) (place_of d r.right) ∷ []) in
        omega (arith, length_push d.written (two_operands And (get_or d.gates k 0) (place_of d r.right)), length_push w1 (one_operand Not (length d.written)))
    go true (Scope k) = omega arith

body_count : (kind : Kind) (r : Row) (n g b a c : ℕ) → length (body_rows kind r n g b a c) ≤ 5
body_count Top r n g b a c = omega arith
body_count Flag r n g b a c = omega arith
body_count Code r n g b a c = omega arith
body_count Not r n g b a c = omega arith
body_count And r n g b a c = omega arith
body_count Or r n g b a c = omega arith
body_count Next r n g b a c = omega arith
body_count Until r n g b a c = omega arith
body_count Always r n g b a c = omega arith
body_count Eventually r n g b a c = omega arith
body_count In r n g b a c = omega arith

write_count : (h : Home) (i : ℕ) (r : Row) (d : Draft) → length (write_step h i r d).written ≤ length d.written + write_cost h (is_in r.kind)
write_count Outside i r d = go (is_in r.kind)
  where
    go : (in_row : Bool) → length (cond in_row (passed_on i r d) (copied i r d)).written ≤ length d.written + cond in_row 0 5
    go true = omega arith
    go false = omega (arith, length_push d.written (moved r (place_of d r.left) (place_of d r.right)))
write_count (Body k) i r d = go (is_in r.kind)
  where
    go : (in_row : Bool) → length (cond in_row (passed_on i r d) (in_body k i r d)).written ≤ length d.written + cond in_row 0 5
    go true = omega arith
    go false =
        let w = d.written in
        let g = get_or d.gates k 0 in
        let b = get_or d.bars k 0 in
        let a = place_of d r.left in
        let c = place_of d r.right in
        omega (arith, length-append w (body_rows r.kind r (length w) g b a c), body_count r.kind r (length w) g b a c)
write_count (Scope k) i r d = omega arith

-- the sum of f at every number below n
unfoldable total : (ℕ → ℕ) → ℕ → ℕ
total f zero = 0
total f (suc n) = total f n + f n

total_more : (f : ℕ → ℕ) (n : ℕ) → total f (n + 1) ≡ total f n + f n
unfolding total
total_more f n = rw add-one

total_small : (f g h : ℕ → ℕ) → ((i : ℕ) → f i + g i + h i ≤ 5) → (n : ℕ) → total f n + total g n + total h n ≤ 5 * n
unfolding total
total_small f g h small zero = omega arith
total_small f g h small (suc n) = omega (arith, small n, total_small f g h small n)

module _ (rows : List Row) where
  abbrev scopes : ℕ → ℕ
  scopes i = scope_cost (home rows i)

  abbrev gates : ℕ → ℕ
  gates i = gate_cost (home rows i) (is_in (get_or rows i blank).kind)

  abbrev others : ℕ → ℕ
  others i = write_cost (home rows i) (is_in (get_or rows i blank).kind)

  scopes_count : length (after_scopes rows).written ≤ total scopes (length rows)
  unfolding after_scopes total
  scopes_count =
      rising_keeps (λ i. scope_step (home rows i) i) (λ i d. length d.written ≤ total scopes i) rows (empty_draft (length rows))
      (λ i d within low. omega (arith, scope_count (home rows i) i (get_or rows i blank) d, total_more scopes i)) (omega arith)

  gates_count : length (after_gates rows).written ≤ total scopes (length rows) + total gates (length rows)
  unfolding after_gates total
  gates_count =
      let n = length rows in
      let low : length (after_gates rows).written + total gates 0 ≤ total scopes n + total gates n =
      falling_keeps (λ i. gate_step (home rows i) i) (λ i d. length d.written + total gates i ≤ total scopes n + total gates n) rows n (after_scopes rows)
      (λ i d within low. omega (arith, gate_count (home rows i) i (get_or rows i blank) d, total_more gates i)) (omega (arith, scopes_count)) in
      omega arith

  rows_count : length (after_rows rows).written ≤ total scopes (length rows) + total gates (length rows) + total others (length rows)
  unfolding after_rows
  rows_count =
      let n = length rows in
      rising_keeps (λ i. write_step (home rows i) i) (λ i d. length d.written ≤ total scopes n + total gates n + total others i) rows (after_gates rows)
      (λ i d within low. omega (arith, write_count (home rows i) i (get_or rows i blank) d, total_more others i)) (omega (arith, gates_count))

  pub translated_count : length (translated rows) ≤ 5 * length rows
  unfolding translated
  translated_count = omega (arith, rows_count, total_small scopes gates others (λ i. cost_small (home rows i) (is_in (get_or rows i blank).kind)) (length rows))
