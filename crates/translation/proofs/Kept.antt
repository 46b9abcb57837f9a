-- What holds of the draft all along: the places, gates and bars of the rows that are done show what they have to.
use Rattle.std.proofs.Common.{◌≡◌, ℕ, ◌+◌, ◌<◌, ◌≤◌, Bool, true, false, ◌⊎◌, List, [], ◌∷◌, ◌++◌, length, get_or, set, sym, refl, ap, ◌∙◌, subst, inl, inr, ⊎_elim, arith}
use Rattle.std.proofs.lemmas.List.{length-set, length-replicate, get_or-set_same, get_or-set_other}
use Rattle.std.proofs.lemmas.Bool.{both_ways, cases_Bool, cases_eq, cond_both}
use Rattle.meaning.specs.Formulas.{Formula, not, and, formula_by, formula_at}
use Rattle.meaning.specs.Gated.{gated}
use Rattle.rows.specs.Homes.{home, in_scope}
use Rattle.rows.specs.Kinds.{is_in, may_scope}
use Rattle.rows.specs.Reach.{InRow}
use Rattle.rows.specs.Rows.{blank}
use Rattle.rows.specs.declared.home.Home.{Home}
use Rattle.rows.specs.declared.home.Home.TheVariants.{Outside, Body, Scope}
use Rattle.rows.specs.declared.kind.HalfUse.TheVariants.{Operand}
use Rattle.rows.specs.declared.kind.Kind.{Kind}
use Rattle.rows.specs.declared.kind.Kind.TheVariants.{Not, And}
use Rattle.rows.specs.declared.row.Row.{Row}
use Rattle.translation.specs.Translation.{Draft, place_of, moved, two_operands, body_rows, copied, scope_step, gate_at, gate_step, passed_on, in_body, write_step, empty_draft, after_scopes, after_gates, after_rows}
use Rattle.rows.proofs.Halves.{half, half_use, in_use}
use Rattle.translation.proofs.Loops.{rising_keeps, falling_keeps}
use Rattle.rows.proofs.Operands.{body_of}
use Rattle.rows.proofs.Parents.{given_new, given_keeps_scope, in_within}
use Rattle.scopes.specs.Ruled.{Ruled}
use Rattle.scopes.proofs.Rules.{operand_below, operand_stands, rule_formula}
use Rattle.translation.proofs.Shows.{Shows, Grown, grown, Ends, shows_two, shows_one, ends_moved, ends_body}
use Rattle.translation.proofs.Wanted.{gate_by, gate_formula, gate_is, wanted, wanted_at, wanted_copied, wanted_same, wanted_scope, wanted_in}

-- the results of the rows that are done, and the gates and bars of those that are opened
pub record Kept (rows : List Row) (Done Opened : ℕ → Type 0) (d : Draft) : Type 0 where
  pub places_long : length d.places ≡ length rows
  pub gates_long : length d.gates ≡ length rows
  pub bars_long : length d.bars ≡ length rows
  pub results : (j : ℕ) → Done j → Shows d.written (place_of d j) (wanted rows j)
  pub gate_shown : (j : ℕ) → Opened j → Shows d.written (get_or d.gates j 0) (gate_formula rows j)
  pub bar_shown : (j : ℕ) → Opened j → Shows d.written (get_or d.bars j 0) (not (gate_formula rows j))

-- what shows at place j of a list of places after place i is set
set_shows : {w v : List Row} (at : ℕ → Formula) (Done More : ℕ → Type 0) (ps : List ℕ) (i p : ℕ) → i < length ps → Grown w v → ((j : ℕ) → Done j → Shows w (get_or ps j 0) (at j)) → Shows v p (at i) → ((j : ℕ) → More j → Done j ⊎ (j ≡ i)) → (j : ℕ) → More j → Shows v (get_or (set ps i p) j 0) (at j)
set_shows {w} {v} at Done More ps i p within grows before here split j done =
    ⊎_elim
    (λ same. subst (λ k. Shows v (get_or (set ps i p) k 0) (at k)) (sym same) (subst (λ q. Shows v q (at i)) (sym (get_or-set_same ps i p 0 within)) here))
    (λ other. subst (λ q. Shows v q (at j)) (sym (get_or-set_other ps i j p 0 other)) (grows (get_or ps j 0) (at j) (before j (⊎_elim (λ x. x) (λ same. absurd (other same)) (split j done)))))
    (cases_eq j i)

module _ {rows : List Row} {Done Opened : ℕ → Type 0} {d : Draft} (kept : Kept rows Done Opened d) where
  fewer : {Done' Opened' : ℕ → Type 0} → ((j : ℕ) → Done' j → Done j) → ((j : ℕ) → Opened' j → Opened j) → Kept rows Done' Opened' d
  fewer less shut = record {
    places_long = kept.places_long;
    gates_long = kept.gates_long;
    bars_long = kept.bars_long;
    results = λ j done. kept.results j (less j done);
    gate_shown = λ j opened. kept.gate_shown j (shut j opened);
    bar_shown = λ j opened. kept.bar_shown j (shut j opened);
  }

  -- row i gets its place
  one_more : {Done' : ℕ → Type 0} (i : ℕ) (v : List Row) (p : ℕ) → i < length rows → Grown d.written v → Shows v p (wanted rows i) → ((j : ℕ) → Done' j → Done j ⊎ (j ≡ i)) → Kept rows Done' Opened (record { written = v; places = set d.places i p; gates = d.gates; bars = d.bars })
  one_more {Done'} i v p within grows here split = record {
    places_long = length-set d.places i p ∙ kept.places_long;
    gates_long = kept.gates_long;
    bars_long = kept.bars_long;
    results = set_shows (wanted rows) Done Done' d.places i p (omega (arith, kept.places_long)) grows kept.results here split;
    gate_shown = λ j opened. grows _ _ (kept.gate_shown j opened);
    bar_shown = λ j opened. grows _ _ (kept.bar_shown j opened);
  }

  -- row i gets its gate and bar
  one_gate : {Opened' : ℕ → Type 0} (i : ℕ) (v : List Row) (g b : ℕ) → i < length rows → Grown d.written v → Shows v g (gate_formula rows i) → Shows v b (not (gate_formula rows i)) → ((j : ℕ) → Opened' j → Opened j ⊎ (j ≡ i)) → Kept rows Done Opened' (record { written = v; places = d.places; gates = set d.gates i g; bars = set d.bars i b })
  one_gate {Opened'} i v g b within grows at_g at_b split = record {
    places_long = kept.places_long;
    gates_long = length-set d.gates i g ∙ kept.gates_long;
    bars_long = length-set d.bars i b ∙ kept.bars_long;
    results = λ j done. grows _ _ (kept.results j done);
    gate_shown = set_shows (gate_formula rows) Opened Opened' d.gates i g (omega (arith, kept.gates_long)) grows kept.gate_shown at_g split;
    bar_shown = set_shows (λ j. not (gate_formula rows j)) Opened Opened' d.bars i b (omega (arith, kept.bars_long)) grows kept.bar_shown at_b split;
  }

-- the rows that are done, by the step and the row that is next
abbrev pub ScopesBelow : List Row → ℕ → ℕ → Type 0
ScopesBelow rows i j = (j < i) × (in_scope (home rows j) ≡ true)

abbrev pub Scopes : List Row → ℕ → Type 0
Scopes rows j = (j < length rows) × (in_scope (home rows j) ≡ true)

abbrev pub Gates : List Row → ℕ → Type 0
Gates rows j = InRow rows j × (in_scope (home rows j) ≡ false)

abbrev pub GatesFrom : List Row → ℕ → ℕ → Type 0
GatesFrom rows k j = (k ≤ j) × Gates rows j

abbrev pub RowsBelow : List Row → ℕ → ℕ → Type 0
RowsBelow rows i j = (j < length rows) × ((in_scope (home rows j) ≡ true) ⊎ (j < i))

pub not_in_scope : (kind : Kind) → may_scope kind ≡ true → is_in kind ≡ false
not_in_scope kind may = grind arith

-- an in row stands in no scope
pub outside : {rows : List Row} → Ruled rows → (k : ℕ) → InRow rows k → in_scope (home rows k) ≡ false
outside {rows} lawful k in_row =
    ⊎_elim (λ inner. absurd (lawful.flat k (in_within rows k in_row) in_row inner)) (λ e. e) (cases_Bool (in_scope (home rows k)))

other_home : (k : ℕ) → Outside ≡ Body k → ⊥
other_home k is = let z : ◌≡◌ {A = ℕ} 0 1 = cc in omega arith

module _ {rows : List Row} (lawful : Ruled rows) where
  -- a copy of row i shows what it has to, if its operands do and no gate is around it
  copied_ends : (i : ℕ) (d : Draft) → i < length rows → is_in (get_or rows i blank).kind ≡ false → ((k : ℕ) → home rows i ≡ Body k → ⊥) → ((side : Bool) → half_use side (get_or rows i blank).kind ≡ Operand → Shows d.written (place_of d (half side (get_or rows i blank))) (wanted rows (half side (get_or rows i blank)))) → Ends (d.written ++ (moved (get_or rows i blank) (place_of d (get_or rows i blank).left) (place_of d (get_or rows i blank).right) ∷ [])) (wanted rows i)
  copied_ends i d within not_in no_body operand =
      let r = get_or rows i blank in
      let at : Formula → Formula = wanted_at (gate_formula rows) (home rows i) in
      let a = place_of d r.left in
      let c = place_of d r.right in
      let x = formula_at rows r.left in
      let y = formula_at rows r.right in
      let shown : (side : Bool) → half_use side r.kind ≡ Operand → Shows d.written (place_of d (half side r)) (at (formula_at rows (half side r))) = λ side is. subst (Shows d.written (place_of d (half side r))) (wanted_same lawful side i is not_in) (operand side is) in
      subst (Ends (d.written ++ (moved r a c ∷ []))) (sym (ap at (rule_formula lawful i within) ∙ wanted_copied (gate_formula rows) (home rows i) r.kind r.left r.right x y not_in no_body))
      (ends_moved r.kind r.left r.right d.written a c (shown true) (shown false))

  -- the operands of a row in a scope are done before it
  pub scope_operand : {Opened : ℕ → Type 0} {d : Draft} (i : ℕ) → Kept rows (ScopesBelow rows i) Opened d → in_scope (home rows i) ≡ true → (side : Bool) → half_use side (get_or rows i blank).kind ≡ Operand → Shows d.written (place_of d (half side (get_or rows i blank))) (wanted rows (half side (get_or rows i blank)))
  scope_operand i kept scope side is =
      let r = get_or rows i blank in
      kept.results (half side r) (operand_below lawful side i is, ap in_scope (operand_stands lawful side i is) ∙ given_keeps_scope side r.kind i (home rows i) scope)

  -- the scope of an in row is done before the gates
  pub gate_scope : {Opened : ℕ → Type 0} {d : Draft} (i : ℕ) → Kept rows (Scopes rows) Opened d → i < length rows → InRow rows i → Shows d.written (place_of d (get_or rows i blank).right) (formula_at rows (get_or rows i blank).right)
  gate_scope {d = d} i kept within in_row =
      let r = get_or rows i blank in
      let out = outside lawful i in_row in
      let is = in_use false r.kind in_row in
      let below = operand_below lawful false i is in
      subst (Shows d.written (place_of d r.right)) (wanted_scope lawful i in_row out)
      (kept.results r.right (omega arith, ap in_scope (operand_stands lawful false i is ∙ given_new false r.kind i (home rows i) in_row out)))

  -- the operands of any other row are done before it
  pub write_operand : {Opened : ℕ → Type 0} {d : Draft} (i : ℕ) → Kept rows (RowsBelow rows i) Opened d → i < length rows → (side : Bool) → half_use side (get_or rows i blank).kind ≡ Operand → Shows d.written (place_of d (half side (get_or rows i blank))) (wanted rows (half side (get_or rows i blank)))
  write_operand i kept within side is =
      let below = operand_below lawful side i is in
      kept.results (half side (get_or rows i blank)) (omega arith, inr below)

  -- the body around a row is that of an in row with a gate, above it
  pub body_gate : (i m : ℕ) → i < length rows → home rows i ≡ Body m → GatesFrom rows (i + 1) m
  body_gate i m within is =
      let above = body_of rows lawful.tree lawful.flat i m within is in
      (omega (arith, above.0), (above.2, outside lawful m above.2))

  pub scope_keeps : (i : ℕ) (d : Draft) → i < length rows → Kept rows (ScopesBelow rows i) (λ j. ⊥) d → Kept rows (ScopesBelow rows (i + 1)) (λ j. ⊥) (scope_step (home rows i) i (get_or rows i blank) d)
  scope_keeps i d within kept =
      cond_both (in_scope (home rows i)) (copied i r d) d (Kept rows (ScopesBelow rows (i + 1)) (λ j. ⊥))
      (λ scope. one_more kept i _ _ within (grown d.written _) (ends_at scope) split)
      (λ out. fewer kept (λ j done. ⊎_elim (λ before. before) (λ same. absurd (both_ways (in_scope (home rows i)) out (subst (λ m. in_scope (home rows m) ≡ true) same done.1))) (split j done)) (λ j opened. opened))
    where
      r : Row
      r = get_or rows i blank

      split : (j : ℕ) → ScopesBelow rows (i + 1) j → ScopesBelow rows i j ⊎ (j ≡ i)
      split j done = ⊎_elim (λ same. inr same) (λ differs. inl (omega (arith, done.0), done.1)) (cases_eq j i)

      ends_at : in_scope (home rows i) ≡ true → Ends (d.written ++ (moved r (place_of d r.left) (place_of d r.right) ∷ [])) (wanted rows i)
      ends_at scope =
          copied_ends i d within (not_in_scope r.kind (lawful.scopes i within scope)) (λ k is. both_ways (in_scope (home rows i)) (ap in_scope is) scope)
          (scope_operand i kept scope)

  pub gate_keeps : (i : ℕ) (d : Draft) → i < length rows → Kept rows (Scopes rows) (GatesFrom rows (i + 1)) d → Kept rows (Scopes rows) (GatesFrom rows i) (gate_step (home rows i) i (get_or rows i blank) d)
  gate_keeps i d within kept =
      cond_both (is_in r.kind) (gate_at (home rows i) i r d) d (Kept rows (Scopes rows) (GatesFrom rows i))
      (λ in_row. at_home in_row (home rows i) refl)
      (λ not_in. none_here (λ gates. both_ways (is_in r.kind) not_in gates.0))
    where
      r : Row
      r = get_or rows i blank

      split : (j : ℕ) → GatesFrom rows i j → GatesFrom rows (i + 1) j ⊎ (j ≡ i)
      split j opened = ⊎_elim (λ same. inr same) (λ differs. inl (omega (arith, opened.0), opened.1)) (cases_eq j i)

      none_here : (Gates rows i → ⊥) → Kept rows (Scopes rows) (GatesFrom rows i) d
      none_here none = fewer kept (λ j done. done) (λ j opened. ⊎_elim (λ before. before) (λ same. absurd (none (subst (Gates rows) same opened.1))) (split j opened))

      at_home : InRow rows i → (h : Home) → home rows i ≡ h → Kept rows (Scopes rows) (GatesFrom rows i) (gate_at h i r d)
      at_home in_row Outside is =
          let g = place_of d r.right in
          let gate : gate_formula rows i ≡ formula_at rows r.right = gate_is lawful i within ∙ ap (λ h. gate_by h (gate_formula rows) (formula_at rows r.right)) is in
          let shown : Shows d.written g (gate_formula rows i) = subst (Shows d.written g) (sym gate) (gate_scope i kept within in_row) in
          one_gate kept i _ g (length d.written) within (grown d.written _) (grown d.written _ g _ shown) (shows_one Not (length d.written) refl shown) split
      at_home in_row (Body m) is =
          let n = length d.written in
          let outer = get_or d.gates m 0 in
          let scope = place_of d r.right in
          let w1 = d.written ++ (two_operands And outer scope ∷ []) in
          let gate : gate_formula rows i ≡ and (gate_formula rows m) (formula_at rows r.right) = gate_is lawful i within ∙ ap (λ h. gate_by h (gate_formula rows) (formula_at rows r.right)) is in
          let shown : Shows w1 n (gate_formula rows i) = subst (Shows w1 n) (sym gate) (shows_two And n refl (kept.gate_shown m (body_gate i m within is)) (gate_scope i kept within in_row)) in
          one_gate kept i _ n (length w1) within (λ p f s. grown w1 _ p f (grown d.written _ p f s)) (grown w1 _ n _ shown) (shows_one Not (length w1) refl shown) split
      at_home in_row (Scope m) is = none_here (λ gates. both_ways (in_scope (home rows i)) gates.1 (ap in_scope is))

  pub write_keeps : (i : ℕ) (d : Draft) → i < length rows → Kept rows (RowsBelow rows i) (Gates rows) d → Kept rows (RowsBelow rows (i + 1)) (Gates rows) (write_step (home rows i) i (get_or rows i blank) d)
  write_keeps i d within kept = at_home (home rows i) refl
    where
      r : Row
      r = get_or rows i blank

      split : (j : ℕ) → RowsBelow rows (i + 1) j → RowsBelow rows i j ⊎ (j ≡ i)
      split j done =
          ⊎_elim (λ same. inr same)
          (λ differs. inl (done.0, ⊎_elim (λ scope. inl scope) (λ low. inr (omega arith)) done.1)) (cases_eq j i)

      passed : InRow rows i → in_scope (home rows i) ≡ false → Kept rows (RowsBelow rows (i + 1)) (Gates rows) (passed_on i r d)
      passed in_row out =
          one_more kept i d.written (place_of d r.left) within (λ p f s. s)
          (subst (Shows d.written (place_of d r.left)) (sym (wanted_in lawful i in_row out within)) (write_operand i kept within true (in_use true r.kind in_row))) split

      body_ends : (m : ℕ) → home rows i ≡ Body m → is_in r.kind ≡ false → Ends (d.written ++ body_rows r.kind r (length d.written) (get_or d.gates m 0) (get_or d.bars m 0) (place_of d r.left) (place_of d r.right)) (wanted rows i)
      body_ends m is not_in =
          let w = d.written in
          let a = place_of d r.left in
          let c = place_of d r.right in
          let x = formula_at rows r.left in
          let y = formula_at rows r.right in
          let gate = gate_formula rows m in
          let opened : Gates rows m = (body_gate i m within is).1 in
          let shown : (side : Bool) → half_use side r.kind ≡ Operand → Shows w (place_of d (half side r)) (gated gate (formula_at rows (half side r))) = λ side named. subst (Shows w (place_of d (half side r))) (wanted_same lawful side i named not_in ∙ ap (λ h. wanted_at (gate_formula rows) h (formula_at rows (half side r))) is) (write_operand i kept within side named) in
          subst (Ends (w ++ body_rows r.kind r (length w) (get_or d.gates m 0) (get_or d.bars m 0) a c)) (sym (ap (wanted_at (gate_formula rows) (home rows i)) (rule_formula lawful i within) ∙ ap (λ h. wanted_at (gate_formula rows) h (formula_by r.kind r.left r.right x y)) is))
          (ends_body r.kind r.left r.right w (length w) (get_or d.gates m 0) (get_or d.bars m 0) a c gate x y refl not_in (kept.gate_shown m opened) (kept.bar_shown m opened) (shown true) (shown false))

      at_home : (h : Home) → home rows i ≡ h → Kept rows (RowsBelow rows (i + 1)) (Gates rows) (write_step h i r d)
      at_home Outside is =
          cond_both (is_in r.kind) (passed_on i r d) (copied i r d) (Kept rows (RowsBelow rows (i + 1)) (Gates rows))
          (λ in_row. passed in_row (ap in_scope is))
          (λ not_in. one_more kept i _ _ within (grown d.written _) (copied_ends i d within not_in (λ k body. other_home k (sym is ∙ body)) (write_operand i kept within)) split)
      at_home (Body m) is =
          cond_both (is_in r.kind) (passed_on i r d) (in_body m i r d) (Kept rows (RowsBelow rows (i + 1)) (Gates rows))
          (λ in_row. passed in_row (ap in_scope is))
          (λ not_in. one_more kept i _ _ within (grown d.written _) (body_ends m is not_in) split)
      at_home (Scope m) is =
          fewer kept (λ j done. ⊎_elim (λ before. before) (λ same. (done.0, inl (subst (λ k. in_scope (home rows k) ≡ true) (sym same) (ap in_scope is)))) (split j done)) (λ j opened. opened)

  pub start : Kept rows (ScopesBelow rows 0) (λ j. ⊥) (empty_draft (length rows))
  start = record {
    places_long = length-replicate (length rows) 0;
    gates_long = length-replicate (length rows) 0;
    bars_long = length-replicate (length rows) 0;
    results = λ j done. absurd (omega (arith, done.0));
    gate_shown = λ j opened. absurd opened;
    bar_shown = λ j opened. absurd opened;
  }

  pub scopes_kept : Kept rows (Scopes rows) (GatesFrom rows (length rows)) (after_scopes rows)
  unfolding after_scopes
  scopes_kept =
      fewer (rising_keeps (λ i. scope_step (home rows i) i) (λ i. Kept rows (ScopesBelow rows i) (λ j. ⊥)) rows (empty_draft (length rows)) scope_keeps start)
      (λ j done. done) (λ j opened. omega (arith, opened.0, in_within rows j opened.1.0))

  pub gates_kept : Kept rows (RowsBelow rows 0) (Gates rows) (after_gates rows)
  unfolding after_gates
  gates_kept =
      fewer (falling_keeps (λ i. gate_step (home rows i) i) (λ i. Kept rows (Scopes rows) (GatesFrom rows i)) rows (length rows) (after_scopes rows) gate_keeps scopes_kept)
      (λ j done. (done.0, ⊎_elim (λ scope. scope) (λ low. absurd (omega arith)) done.1)) (λ j opened. (omega arith, opened))

  pub rows_kept : Kept rows (RowsBelow rows (length rows)) (Gates rows) (after_rows rows)
  unfolding after_rows
  rows_kept = rising_keeps (λ i. write_step (home rows i) i) (λ i. Kept rows (RowsBelow rows i) (Gates rows)) rows (after_gates rows) write_keeps gates_kept
