-- The marks of a rule's rows, each on the states that are left for the row.
use Rattle.std.proofs.Common.{◌≡◌, ℕ, ◌+◌, ◌-◌, ◌*◌, ◌<◌, ◌≤◌, Bool, true, false, ltb, List, [], ◌∷◌, length, get_or, drop, sym, refl, ap, ◌∙◌, subst, ⊎_elim, arith}
use Rattle.std.proofs.lemmas.List.FromFn.{length-map-range_with_len, get_or-map-range_with_len}
use Rattle.std.proofs.lemmas.List.{drop_more}
use Rattle.std.proofs.lemmas.Bool.{cases_Bool, cond-false, le-ltb}
use Rattle.rows.specs.Homes.{home, in_scope as scope_home}
use Rattle.rows.specs.Kinds.{is_in}
use Rattle.rows.specs.Rows.{blank}
use Rattle.rows.specs.declared.kind.HalfUse.TheVariants.{Operand as OperandUse}
use Rattle.rows.specs.declared.kind.Kind.{Kind}
use Rattle.rows.specs.declared.kind.Kind.TheVariants.{In}
use Rattle.rows.specs.declared.row.Row.{Row}
use Rattle.rows.proofs.Halves.{half, half_use, in_use}
use Rattle.rows.proofs.Operands.{last_outside}
use Rattle.rows.proofs.Parents.{given_same, given_new}
use Rattle.scales.specs.Lattice.{Lattice, Laws}
use Rattle.sessions.specs.States.{no_state, Alike}
use Rattle.sessions.specs.declared.state.State.{State}
use Rattle.meaning.specs.Formulas.{Formula, formula_by, formula_at}
use Rattle.meaning.specs.Meaning.{mark, thinned, row_mark}
use Rattle.scopes.specs.Ruled.{Ruled}
use Rattle.scopes.proofs.Rules.{operand_below, operand_stands, rule_formula}
use Rattle.marking.specs.Bodies.{at_home, Bodies}
use Rattle.marking.specs.Marks.{Sound, Filled, MarksOn, some, state_by}
use Rattle.marking.specs.Straight.{left_in, left_for, straight_mark, straight_marks, after_straight}
use Rattle.marking.proofs.Filling.{filled_all}
use Rattle.marking.proofs.Left.{left_none, left_open, left_shut, left_by, home_is}
use Rattle.marking.proofs.Single.{fits_by, state_row, state_same}
use Rattle.marking.proofs.Turns.{later_is, mark_is}

kind_in : (kind : Kind) → is_in kind ≡ true → kind ≡ In
kind_in kind in_row = grind arith

alike_same : (s : State) → Alike s s
alike_same s = record { flags = refl; codes = λ k. refl }

module _ {rows : List Row} (ruled : Ruled rows) where
  pub rule_sound : Sound rows
  rule_sound i within =
      let row = get_or rows i blank in
      fits_by row.kind i row.left row.right (operand_below ruled true i) (operand_below ruled false i)

  -- an operand of a row that is no in row is left the same states
  operand_left : (side : Bool) (i : ℕ) (w : List State) → i < length rows → half_use side (get_or rows i blank).kind ≡ OperandUse → is_in (get_or rows i blank).kind ≡ false → left_for rows (half side (get_or rows i blank)) w ≡ left_for rows i w
  operand_left side i w within named no_in =
      let row = get_or rows i blank in
      let below = operand_below ruled side i named in
      left_by ruled (half side row) w (omega arith)
      ∙ ap (λ h. left_in (left_for rows) rows h w) (operand_stands ruled side i named ∙ given_same side row.kind i (home rows i) no_in)
      ∙ sym (left_by ruled i w within)

  -- the left operand of an in row is left those in scope
  body_operand : (i : ℕ) (w : List State) → i < length rows → is_in (get_or rows i blank).kind ≡ true → left_for rows (get_or rows i blank).left w ≡ thinned (formula_at rows (get_or rows i blank).right) (left_for rows i w)
  body_operand i w within in_row =
      let row = get_or rows i blank in
      let named = in_use true row.kind in_row in
      let below = operand_below ruled true i named in
      let flat : scope_home (home rows i) ≡ false = ⊎_elim (λ is. absurd (ruled.flat i within in_row is)) (λ is. is) (cases_Bool (scope_home (home rows i))) in
      left_by ruled row.left w (omega arith)
      ∙ ap (λ h. left_in (left_for rows) rows h w) (operand_stands ruled true i named ∙ given_new true row.kind i (home rows i) in_row flat)

  module _ {M : Type 0} (L : Lattice M) (i : ℕ) (within : i < length rows) where
    inside_is : (kind : Kind) (l r : ℕ) (a b : Formula) (w : List State) → kind ≡ In → mark L (formula_by kind l r a b) w ≡ mark L a (thinned b w)
    unfolding mark
    inside_is kind l r a b w is = ap (λ k. mark L (formula_by k l r a b) w) is

    -- an in row has the mark of its left operand
    in_mark : (w : List State) → is_in (get_or rows i blank).kind ≡ true → straight_mark L rows i w ≡ straight_mark L rows (get_or rows i blank).left w
    in_mark w in_row =
        let row = get_or rows i blank in
        ap (λ f. mark L f (left_for rows i w)) (rule_formula ruled i within)
        ∙ inside_is row.kind row.left row.right (formula_at rows row.left) (formula_at rows row.right) (left_for rows i w) (kind_in row.kind in_row)
        ∙ ap (mark L (formula_at rows row.left)) (sym (body_operand i w within in_row))

    -- the mark on one more state, where that state is left for the row
    abbrev Steps : State → List State → Type 0
    Steps s w = straight_mark L rows i (s ∷ w) ≡ state_by L (get_or rows i blank).kind (get_or rows i blank).left s (some (left_for rows i w)) (straight_mark L rows (get_or rows i blank).left (s ∷ w)) (straight_mark L rows (get_or rows i blank).right (s ∷ w)) (straight_mark L rows (get_or rows i blank).left w) (straight_mark L rows i w)

    in_steps : (s : State) (w : List State) → is_in (get_or rows i blank).kind ≡ true → Steps s w
    in_steps s w in_row =
        let row = get_or rows i blank in
        in_mark (s ∷ w) in_row
        ∙ ap (λ kind. state_by L kind row.left s (some (left_for rows i w)) (straight_mark L rows row.left (s ∷ w)) (straight_mark L rows row.right (s ∷ w)) (straight_mark L rows row.left w) (straight_mark L rows i w)) (sym (kind_in row.kind in_row))

    other_steps : Laws L → (s : State) (w : List State) → some (left_for rows i (s ∷ [])) ≡ true → is_in (get_or rows i blank).kind ≡ false → Steps s w
    other_steps laws s w passes no_in =
        let row = get_or rows i blank in
        let front = left_open rows i s w passes in
        let same : (side : Bool) → half_use side row.kind ≡ OperandUse → row_mark L rows (half side row) (s ∷ left_for rows i w) ≡ straight_mark L rows (half side row) (s ∷ w) = λ side named. ap (row_mark L rows (half side row)) (sym (operand_left side i (s ∷ w) within named no_in ∙ front)) in
        ap (row_mark L rows i) front
        ∙ state_row L rows i (rule_formula ruled i within) laws s (left_for rows i w) no_in
        ∙ state_same L row.kind row.left s s (some (left_for rows i w)) _ _ _ _ _ _ (straight_mark L rows i w) (alike_same s) (same true) (same false) (λ named. ap (row_mark L rows row.left) (sym (operand_left true i w within named no_in)))

    -- One turn of the loop over the rows, at a position of the session.
    module _ (states : List State) (position : ℕ) (inside : position < length states) (passing : List Bool) (passing_is : Bodies rows (get_or states position no_state ∷ []) passing) where
      session_is : drop position states ≡ get_or states position no_state ∷ drop (position + 1) states
      session_is = drop_more states position no_state inside

      -- The state is left for the row, and its mark is worked out.
      pub rule_taken : Laws L → (marks after : List M) (count : ℕ) (state : State) (later : Bool) (here : M) (seen : List Bool) → MarksOn L (straight_mark L rows) (drop position states) i marks → MarksOn L (straight_mark L rows) (drop (position + 1) states) (length rows) after → at_home (home rows i) passing true ≡ true → count ≡ length states → Alike state (get_or states position no_state) → Bodies rows (drop (position + 1) states) seen → later ≡ at_home (home rows i) seen (ltb position (count - 1)) → here ≡ state_by L (get_or rows i blank).kind (get_or rows i blank).left state later (get_or marks (get_or rows i blank).left L.top) (get_or marks (get_or rows i blank).right L.top) (get_or after (get_or rows i blank).left L.top) (get_or after i L.top) → here ≡ straight_mark L rows i (drop position states)
      rule_taken laws marks after count state later here seen on stored passes count_is alike seen_is later_at is =
          let row = get_or rows i blank in
          let first = get_or states position no_state in
          let rest = drop (position + 1) states in
          let left = sym (home_is ruled i (first ∷ []) passing true within (λ k above. passing_is k) refl) ∙ passes in
          let steps : Steps first rest = ⊎_elim (in_steps first rest) (other_steps laws first rest left) (cases_Bool (is_in row.kind)) in
          let meant_is = subst (λ v. straight_mark L rows i v ≡ state_by L row.kind row.left first (some (left_for rows i rest)) (straight_mark L rows row.left v) (straight_mark L rows row.right v) (straight_mark L rows row.left rest) (straight_mark L rows i rest)) (sym session_is) steps in
          let Later_same = later_at ∙ home_is ruled i rest seen (ltb position (count - 1)) within (λ k above. seen_is k) (later_is position count states count_is) in
          mark_is L (straight_mark L rows) (length rows) i within (drop position states) rest marks after on stored row.kind row.left row.right state first later (some (left_for rows i rest)) here (rule_sound i within) alike Later_same meant_is is

      -- The state is not left for the row, and its mark stays.
      pub rule_kept : at_home (home rows i) passing true ≡ false → straight_mark L rows i (drop (position + 1) states) ≡ straight_mark L rows i (drop position states)
      rule_kept shut =
          let first = get_or states position no_state in
          let rest = drop (position + 1) states in
          let gone = sym (home_is ruled i (first ∷ []) passing true within (λ k above. passing_is k) refl) ∙ shut in
          sym (ap (row_mark L rows i) (ap (left_for rows i) session_is ∙ left_shut rows i first rest gone))

  -- the last row is left the whole session
  pub last_whole : (w : List State) → left_for rows (length rows - 1) w ≡ w
  last_whole w =
      let some_rows = ruled.some in
      left_by ruled (length rows - 1) w (omega arith)
      ∙ ap (λ h. left_in (left_for rows) rows h w) (last_outside rows ruled.tree (length rows - 1) (omega arith))

module _ {M : Type 0} (L : Lattice M) (rows : List Row) where
  -- on the empty session the marks are those of a plain table
  pub straight_start : (i : ℕ) (marks : List M) → MarksOn L (row_mark L rows) [] i marks → MarksOn L (straight_mark L rows) [] i marks
  straight_start i marks on = λ k h. on k h ∙ ap (row_mark L rows k) (sym (left_none rows k))

  pub straight_is : (w : List State) (old now : List M) → 2 * length rows ≤ length old → Filled L (length rows) (straight_mark L rows) w (drop 1 w) (length rows) old now → now ≡ after_straight L rows w old
  unfolding straight_marks
  straight_is w old now room filled =
      let n = length rows in
      let long : (v : List State) → length (straight_marks L rows v) ≡ n = λ v. length-map-range_with_len (λ i. straight_mark L rows i v) 0 n in
      let at : (v : List State) (k : ℕ) → k < n → get_or (straight_marks L rows v) k L.top ≡ straight_mark L rows k v = λ v k h. get_or-map-range_with_len (λ i. straight_mark L rows i v) 0 n k k L.top h (omega arith) in
      filled_all L n (straight_mark L rows) w (drop 1 w) old now (straight_marks L rows w) (straight_marks L rows (drop 1 w)) room (long w) (long (drop 1 w)) (at w) (at (drop 1 w)) filled
      ∙ sym (cond-false _ _ _ (le-ltb (length old) (2 * n) room))
