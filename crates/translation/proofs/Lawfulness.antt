-- The translation of a lawful rule is a lawful plain table.
use Rattle.std.proofs.Common.{◌≡◌, ℕ, ◌+◌, ◌<◌, ◌≤◌, Bool, true, false, cond, not, ◌&&◌, ◌||◌, eqb, ltb, List, [], ◌∷◌, ◌++◌, length, get_or, Some, None, Option, sym, refl, ap, ◌∙◌, subst, ap₂, ⊎_elim, arith}
use Rattle.std.proofs.lemmas.List.{append_assoc, append-nil, length_push, get_or_append_left, get_or_push}
use Rattle.std.proofs.lemmas.Bool.{and_from, cases_eq, cond_both, cond-true, le-ltb, lt-ltb, ne_eqb, or_from, true≢false}
use Rattle.refusals.specs.First.{then, first_from}
use Rattle.refusals.proofs.First.{then_first, first_none}
use Rattle.rows.specs.Homes.{home, in_scope}
use Rattle.rows.specs.Kinds.{is_in, left_use, right_use, zero_kept, number_kept, order_kept}
use Rattle.rows.specs.Rows.{blank}
use Rattle.rows.specs.declared.home.Home.{Home}
use Rattle.rows.specs.declared.home.Home.TheVariants.{Outside, Body, Scope}
use Rattle.rows.specs.declared.kind.HalfUse.{HalfUse}
use Rattle.rows.specs.declared.kind.HalfUse.TheVariants.{Zero, FlagNumber, CodeNumber, Operand}
use Rattle.rows.specs.declared.kind.Kind.{Kind}
use Rattle.rows.specs.declared.kind.Kind.TheVariants.{Top, Flag, Code, Not, And, Or, Next, Until, Always, Eventually, In}
use Rattle.rows.specs.declared.row.Row.{Row}
use Rattle.tables.specs.Faults.{size_fault, row_fault}
use Rattle.tables.specs.Lawful.{rows_fault, none_found, lawful_rows, lawful_rule}
use Rattle.tables.specs.declared.fault.TableFault.{TableFault}
use Rattle.tables.specs.declared.fault.TableFault.TheVariants.{RowCount, OperandNotBelow, NumberNotUsed, HalfNotZero, UnknownKind}
use Rattle.tables.specs.declared.form.Form.TheVariants.{Rule, Plain}
use Rattle.tables.proofs.Sound.{none_is, fine_sizes}
use Rattle.translation.specs.Translation.{Draft, place_of, moved_half, moved, two_operands, body_rows, copied, scope_step, gate_at, gate_step, passed_on, in_body, write_step, empty_draft, after_scopes, after_gates, after_rows, translated}
use Rattle.translation.proofs.Count.{translated_count}
use Rattle.rows.proofs.Halves.{half, half_use}
use Rattle.translation.proofs.Kept.{Kept, ScopesBelow, Scopes, GatesFrom, Gates, RowsBelow, scope_operand, gate_scope, write_operand, body_gate, scope_keeps, gate_keeps, write_keeps, scopes_kept, gates_kept, not_in_scope, start}
use Rattle.translation.proofs.Loops.{rising_keeps, falling_keeps}
use Rattle.scopes.specs.Ruled.{Ruled}
use Rattle.scopes.proofs.Rules.{ruled, each_fine}
use Rattle.translation.proofs.Translating.{translated_some}

tests : (a b c : Bool) (p q r : TableFault) → cond a (cond b (cond c None (Some p)) (Some q)) (Some r) ≡ None → (a ≡ true) × (b ≡ true)
tests true true c p q r e = (refl, refl)
tests true false c p q r e = let z : ◌≡◌ {A = ℕ} 0 1 = cc in absurd (omega arith)
tests false b c p q r e = let z : ◌≡◌ {A = ℕ} 0 1 = cc in absurd (omega arith)

-- a half of a copy keeps what the half keeps, if an operand stands below
moved_zero : (of : HalfUse) (half at : ℕ) → zero_kept of (moved_half of half at) ≡ zero_kept of half
moved_zero Zero half at = refl
moved_zero FlagNumber half at = refl
moved_zero CodeNumber half at = refl
moved_zero Operand half at = refl

moved_number : (flags codes : ℕ) (of : HalfUse) (half at : ℕ) → number_kept flags codes of (moved_half of half at) ≡ number_kept flags codes of half
moved_number flags codes Zero half at = refl
moved_number flags codes FlagNumber half at = refl
moved_number flags codes CodeNumber half at = refl
moved_number flags codes Operand half at = refl

moved_order : (of : HalfUse) (q half at : ℕ) → (of ≡ Operand → at < q) → order_kept q of (moved_half of half at) ≡ true
moved_order Zero q half at low = refl
moved_order FlagNumber q half at low = refl
moved_order CodeNumber q half at low = refl
moved_order Operand q half at low = lt-ltb at q (low refl)

conds : (a b c d : Bool) (p q r s : TableFault) → a ≡ true → b ≡ true → c ≡ true → d ≡ true → cond a (cond b (cond c (cond d None (Some p)) (Some q)) (Some r)) (Some s) ≡ None
conds a b c d p q r s ea eb ec ed = grind arith

module _ (flags codes : ℕ) where
  moved_fine : (i q : ℕ) (r : Row) (a c : ℕ) → row_fault Rule flags codes i r ≡ None → is_in r.kind ≡ false → (left_use r.kind ≡ Operand → a < q) → (right_use r.kind ≡ Operand → c < q) → row_fault Plain flags codes q (moved r a c) ≡ None
  moved_fine i q r a c fine not_in left_low right_low =
      let lu = left_use r.kind in
      let ru = right_use r.kind in
      let kept = tests (zero_kept lu r.left && zero_kept ru r.right) (number_kept flags codes lu r.left && number_kept flags codes ru r.right) (order_kept i lu r.left && order_kept i ru r.right) (OperandNotBelow i) (NumberNotUsed i) (HalfNotZero i) fine in
      conds (not (is_in r.kind))
      (zero_kept lu (moved_half lu r.left a) && zero_kept ru (moved_half ru r.right c))
      (number_kept flags codes lu (moved_half lu r.left a) && number_kept flags codes ru (moved_half ru r.right c))
      (order_kept q lu (moved_half lu r.left a) && order_kept q ru (moved_half ru r.right c))
      (OperandNotBelow q) (NumberNotUsed q) (HalfNotZero q) (UnknownKind q)
      (ap not not_in)
      (ap₂ ◌&&◌ (moved_zero lu r.left a) (moved_zero ru r.right c) ∙ kept.0)
      (ap₂ ◌&&◌ (moved_number flags codes lu r.left a) (moved_number flags codes ru r.right c) ∙ kept.1)
      (and_from _ _ (moved_order lu q r.left a left_low) (moved_order ru q r.right c right_low))

  -- no row has a fault
  abbrev Fine : List Row → Type 0
  Fine w = (q : ℕ) → q < length w → row_fault Plain flags codes q (get_or w q blank) ≡ None

  -- nor has one of these, from place n on
  abbrev FineFrom : ℕ → List Row → Type 0
  FineFrom n [] = Unit {0}
  FineFrom n (r ∷ rs) = (row_fault Plain flags codes n r ≡ None) × FineFrom (n + 1) rs

  fine_push : (w : List Row) (r : Row) → Fine w → row_fault Plain flags codes (length w) r ≡ None → Fine (w ++ (r ∷ []))
  fine_push w r fine new q low =
      ⊎_elim
      (λ same. subst (λ m. row_fault Plain flags codes m (get_or (w ++ (r ∷ [])) m blank) ≡ None) (sym same) (ap (row_fault Plain flags codes (length w)) (get_or_push w r blank (length w) refl) ∙ new))
      (λ differs. let before : q < length w = omega (arith, length_push w r) in ap (row_fault Plain flags codes q) (get_or_append_left w (r ∷ []) blank q before) ∙ fine q before)
      (cases_eq q (length w))

  fine_append : (w rs : List Row) (n : ℕ) → length w ≡ n → Fine w → FineFrom n rs → Fine (w ++ rs)
  fine_append w [] n long fine from = subst Fine (sym (append-nil w)) fine
  fine_append w (r ∷ rs) n long fine from =
      subst Fine (append_assoc w (r ∷ []) rs)
      (fine_append (w ++ (r ∷ [])) rs (n + 1) (omega (arith, length_push w r)) (fine_push w r fine (subst (λ m. row_fault Plain flags codes m r ≡ None) (sym long) from.0)) from.1)

  -- operands below their row are no fault
  ordered : (q a c : ℕ) → a < q → c < q → cond (ltb a q && ltb c q) None (Some (OperandNotBelow q)) ≡ None
  ordered q a c first second = cond-true _ _ _ (and_from _ _ (lt-ltb a q first) (lt-ltb c q second))

  ordered_one : (q a : ℕ) → a < q → cond (ltb a q && true) None (Some (OperandNotBelow q)) ≡ None
  ordered_one q a first = cond-true _ _ _ (and_from _ _ (lt-ltb a q first) refl)

  body_fine : (kind : Kind) (l r i n g b a c : ℕ) → row_fault Rule flags codes i (record { kind = kind; left = l; right = r }) ≡ None → is_in kind ≡ false → g < n → b < n → (left_use kind ≡ Operand → a < n) → (right_use kind ≡ Operand → c < n) → FineFrom n (body_rows kind (record { kind = kind; left = l; right = r }) n g b a c)
  body_fine Top l r i n g b a c fine not_in lg lb la lc = (moved_fine i n (record { kind = Top; left = l; right = r }) a c fine not_in la lc, tt)
  body_fine Flag l r i n g b a c fine not_in lg lb la lc = (moved_fine i n (record { kind = Flag; left = l; right = r }) a c fine not_in la lc, (ordered (n + 1) g n (omega arith) (omega arith), (ordered (n + 1 + 1) b (n + 1) (omega arith) (omega arith), tt)))
  body_fine Code l r i n g b a c fine not_in lg lb la lc = (moved_fine i n (record { kind = Code; left = l; right = r }) a c fine not_in la lc, (ordered (n + 1) g n (omega arith) (omega arith), (ordered (n + 1 + 1) b (n + 1) (omega arith) (omega arith), tt)))
  body_fine Not l r i n g b a c fine not_in lg lb la lc = (moved_fine i n (record { kind = Not; left = l; right = r }) a c fine not_in la lc, tt)
  body_fine And l r i n g b a c fine not_in lg lb la lc = (moved_fine i n (record { kind = And; left = l; right = r }) a c fine not_in la lc, tt)
  body_fine Or l r i n g b a c fine not_in lg lb la lc = (moved_fine i n (record { kind = Or; left = l; right = r }) a c fine not_in la lc, tt)
  body_fine Next l r i n g b a c fine not_in lg lb la lc =
      let low = la refl in (
        ordered n g a lg low,
        (
          ordered (n + 1) b n (omega arith) (omega arith),
          (
            ordered_one (n + 1 + 1) (n + 1) (omega arith),
            (ordered (n + 1 + 1 + 1) g (n + 2) (omega arith) (omega arith), (ordered (n + 1 + 1 + 1 + 1) b (n + 3) (omega arith) (omega arith), tt)),
          ),
        ),
      )
  body_fine Until l r i n g b a c fine not_in lg lb la lc =
      let high = lc refl in
      (ordered n b a lb (la refl), (ordered (n + 1) g c (omega arith) (omega arith), (ordered (n + 1 + 1) n (n + 1) (omega arith) (omega arith), tt)))
  body_fine Always l r i n g b a c fine not_in lg lb la lc = (ordered n b a lb (la refl), (ordered_one (n + 1) n (omega arith), tt))
  body_fine Eventually l r i n g b a c fine not_in lg lb la lc = (ordered n g a lg (la refl), (ordered_one (n + 1) n (omega arith), tt))
  body_fine In l r i n g b a c fine not_in lg lb la lc = absurd (true≢false not_in)

  module _ {rows : List Row} (lawful : Ruled rows) (fine : (i : ℕ) → i < length rows → row_fault Rule flags codes i (get_or rows i blank) ≡ None) where
    scope_fine : (i : ℕ) (d : Draft) → i < length rows → Kept rows (ScopesBelow rows i) (λ j. ⊥) d → Fine d.written → Fine (scope_step (home rows i) i (get_or rows i blank) d).written
    scope_fine i d within kept before =
        let r = get_or rows i blank in
        cond_both (in_scope (home rows i)) (copied i r d) d (λ e. Fine e.written)
        (λ scope. fine_push d.written _ before (moved_fine i (length d.written) r _ _ (fine i within) (not_in_scope r.kind (lawful.scopes i within scope)) (λ is. (scope_operand lawful i kept scope true is).low) (λ is. (scope_operand lawful i kept scope false is).low)))
        (λ out. before)

    gate_fine : (i : ℕ) (d : Draft) → i < length rows → Kept rows (Scopes rows) (GatesFrom rows (i + 1)) d → Fine d.written → Fine (gate_step (home rows i) i (get_or rows i blank) d).written
    gate_fine i d within kept before =
        cond_both (is_in r.kind) (gate_at (home rows i) i r d) d (λ e. Fine e.written) (λ in_row. at_home (gate_scope lawful i kept within in_row).low (home rows i) refl) (λ not_in. before)
      where
        r : Row
        r = get_or rows i blank

        at_home : place_of d r.right < length d.written → (h : Home) → home rows i ≡ h → Fine (gate_at h i r d).written
        at_home low Outside is = fine_push d.written _ before (ordered_one (length d.written) (place_of d r.right) low)
        at_home low (Body m) is =
            let w = d.written in
            let g = get_or d.gates m 0 in
            let c = place_of d r.right in
            let w1 = w ++ (two_operands And g c ∷ []) in
            fine_push w1 _ (fine_push w _ before (ordered (length w) g c (kept.gate_shown m (body_gate lawful i m within is)).low low))
            (ordered_one (length w1) (length w) (omega (arith, length_push w (two_operands And g c))))
        at_home low (Scope m) is = before

    write_fine : (i : ℕ) (d : Draft) → i < length rows → Kept rows (RowsBelow rows i) (Gates rows) d → Fine d.written → Fine (write_step (home rows i) i (get_or rows i blank) d).written
    write_fine i d within kept before = at_home (home rows i) refl
      where
        r : Row
        r = get_or rows i blank

        low : (side : Bool) → half_use side r.kind ≡ Operand → place_of d (half side r) < length d.written
        low side is = (write_operand lawful i kept within side is).low

        at_home : (h : Home) → home rows i ≡ h → Fine (write_step h i r d).written
        at_home Outside is =
            cond_both (is_in r.kind) (passed_on i r d) (copied i r d) (λ e. Fine e.written) (λ in_row. before)
            (λ not_in. fine_push d.written _ before (moved_fine i (length d.written) r _ _ (fine i within) not_in (low true) (low false)))
        at_home (Body m) is =
            let opened = (body_gate lawful i m within is).1 in
            cond_both (is_in r.kind) (passed_on i r d) (in_body m i r d) (λ e. Fine e.written) (λ in_row. before)
            (λ not_in. fine_append d.written _ (length d.written) refl before (body_fine r.kind r.left r.right i (length d.written) _ _ _ _ (fine i within) not_in (kept.gate_shown m opened).low (kept.bar_shown m opened).low (low true) (low false)))
        at_home (Scope m) is = before

    scopes_fine : Fine (after_scopes rows).written
    unfolding after_scopes
    scopes_fine =
        (rising_keeps (λ i. scope_step (home rows i) i) (λ i d. Kept rows (ScopesBelow rows i) (λ j. ⊥) d × Fine d.written) rows (empty_draft (length rows))
        (λ i d within both. (scope_keeps lawful i d within both.0, scope_fine i d within both.0 both.1))
        (start lawful, λ q low. absurd (omega arith))).1

    gates_fine : Fine (after_gates rows).written
    unfolding after_gates
    gates_fine =
        (falling_keeps (λ i. gate_step (home rows i) i) (λ i d. Kept rows (Scopes rows) (GatesFrom rows i) d × Fine d.written) rows (length rows) (after_scopes rows)
        (λ i d within both. (gate_keeps lawful i d within both.0, gate_fine i d within both.0 both.1))
        (scopes_kept lawful, scopes_fine)).1

    rows_fine : Fine (after_rows rows).written
    unfolding after_rows
    rows_fine =
        (rising_keeps (λ i. write_step (home rows i) i) (λ i d. Kept rows (RowsBelow rows i) (Gates rows) d × Fine d.written) rows (after_gates rows)
        (λ i d within both. (write_keeps lawful i d within both.0, write_fine i d within both.0 both.1))
        (gates_kept lawful, gates_fine)).1

-- the flags and codes used are those of the rule, and the size is within the limits
sizes : (a b : Bool) (o : Option TableFault) → cond a (Some RowCount) o ≡ None → b ≡ false → cond b (Some RowCount) o ≡ None
sizes true b o e is = let z : ◌≡◌ {A = ℕ} 0 1 = cc in absurd (omega arith)
sizes false b o e is = rw is e

pub translated_lawful : (flags codes : ℕ) (rows : List Row) → lawful_rows Rule flags codes rows ≡ true → lawful_rule rows ≡ true → lawful_rows Plain flags codes (translated rows) ≡ true
unfolding lawful_rows rows_fault translated
translated_lawful flags codes rows fine rule =
    let w = translated rows in
    let at : ℕ → Option TableFault = λ q. row_fault Plain flags codes q (get_or w q blank) in
    let some = translated_some flags codes rows fine rule in
    let few : length w ≤ 5120 = omega (arith, translated_count rows, (fine_sizes Rule flags codes rows fine).1) in
    let each : (q : ℕ) → 0 ≤ q → q < 0 + length w → at q ≡ None = λ q low high. rows_fine flags codes (ruled flags codes rows fine rule) (each_fine flags codes rows fine rule) q (omega arith) in
    let within : (eqb (length w) 0 || ltb 5120 (length w)) ≡ false = or_from _ _ (ne_eqb (length w) 0 (λ e. omega arith)) (le-ltb 5120 (length w) few) in
    let size : size_fault Plain (length w) flags codes ≡ None = sizes _ (eqb (length w) 0 || ltb 5120 (length w)) _ (then_first _ _ (none_is (rows_fault Rule flags codes rows) fine)) within in
    ap none_found (ap (λ o. then o (first_from at 0 (length w))) size ∙ first_none at 0 (length w) each)
