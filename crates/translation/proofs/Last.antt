-- The last row that is written is the result of the last rule row: what stands above the root of its bodies is in rows and scopes.
use Rattle.std.proofs.Common.{◌≡◌, ℕ, zero, suc, ◌+◌, ◌-◌, ◌<◌, ◌≤◌, Bool, true, false, eqb, ◌⊎◌, List, [], ◌∷◌, ◌++◌, length, get_or, set, sym, refl, ap, ◌∙◌, subst, inl, inr, ⊎_elim, arith}
use Rattle.std.proofs.lemmas.List.{get_or-set_same, get_or-set_other}
use Rattle.std.proofs.lemmas.Bool.{both_ways, cases_Bool, cases_eq, cases_lt, cond-true, cond-false, eqb-true, true≢false, false≢true}
use Rattle.rows.specs.Homes.{home, in_scope}
use Rattle.rows.specs.Kinds.{is_in}
use Rattle.rows.specs.Reach.{InRow}
use Rattle.rows.specs.Rows.{blank, left_is}
use Rattle.rows.specs.declared.home.Home.{Home}
use Rattle.rows.specs.declared.home.Home.TheVariants.{Outside, Body, Scope}
use Rattle.rows.specs.declared.row.Row.{Row}
use Rattle.translation.specs.Translation.{Draft, place_of, moved, body_rows, wrote, copied, passed_on, in_body, write_step, after_gates, after_rows}
use Rattle.rows.proofs.Halves.{half_is, in_use}
use Rattle.translation.proofs.Kept.{Kept, RowsBelow, Gates, outside, write_keeps, gates_kept}
use Rattle.translation.proofs.Loops.{rising_keeps}
use Rattle.rows.proofs.Operands.{operand_home, parent_of, last_outside}
use Rattle.rows.proofs.Parents.{given_new, given_keeps_scope}
use Rattle.scopes.specs.Ruled.{Ruled}
use Rattle.scopes.proofs.Rules.{operand_below, operand_stands}

-- all rows above row t are in a scope, or in rows whose bodies do not end below t
record Trunk (rows : List Row) (t : ℕ) : Type 0 where
  within : t < length rows
  out : in_scope (home rows t) ≡ false
  above : (q : ℕ) → t < q → q < length rows → (in_scope (home rows q) ≡ true) ⊎ (InRow rows q × (t ≤ (get_or rows q blank).left))

left_of_in : (r : Row) (i : ℕ) → is_in r.kind ≡ true → left_is r i ≡ eqb r.left i
left_of_in r i in_row = grind arith

module _ {rows : List Row} (lawful : Ruled rows) where
  -- an operand of an in row that is not its body is its scope
  scope_half : (side : Bool) (p q : ℕ) → InRow rows p → half_is side (get_or rows p blank) q ≡ true → ((get_or rows p blank).left ≡ q → ⊥) → in_scope (home rows q) ≡ true
  scope_half true p q in_row named other =
      let r = get_or rows p blank in
      absurd (other (eqb-true r.left q (sym (left_of_in r q in_row) ∙ named)))
  scope_half false p q in_row named other =
      let r = get_or rows p blank in
      ap in_scope (operand_home rows lawful.tree false p q named ∙ given_new false r.kind p (home rows p) in_row (outside lawful p in_row))

  body_out : (i : ℕ) → InRow rows i → in_scope (home rows (get_or rows i blank).left) ≡ false
  body_out i in_row =
      let r = get_or rows i blank in
      ap in_scope (operand_stands lawful true i (in_use true r.kind in_row) ∙ given_new true r.kind i (home rows i) in_row (outside lawful i in_row))

  module _ (t : ℕ) (trunk : Trunk rows t) (in_row : InRow rows t) where
    -- between an in row of the trunk and its body are scopes
    between : (n q : ℕ) → (get_or rows t blank).left < q → q < t → t ≤ q + n → in_scope (home rows q) ≡ true
    between zero q low high left = absurd (omega arith)
    between (suc n) q low high left =
        let inner = trunk.within in
        let (p, side, up, end, named) = parent_of rows lawful.tree q (omega arith) in
        let kind = (get_or rows p blank).kind in
        let keeps : in_scope (home rows p) ≡ true → in_scope (home rows q) ≡ true = λ scope. ap in_scope (operand_home rows lawful.tree side p q named) ∙ given_keeps_scope side kind p (home rows p) scope in
        ⊎_elim
        (λ same. scope_half side p q (subst (InRow rows) same in_row) named (λ e. omega (arith, ap (λ m. (get_or rows m blank).left) same)))
        (λ differs. ⊎_elim
        (λ below. keeps (between n p (omega arith) below (omega arith)))
        (λ over. ⊎_elim keeps (λ is. scope_half side p q is.0 named (λ e. omega (arith, is.1))) (trunk.above p (omega arith) end))
        (cases_lt p t))
        (cases_eq t p)

    trunk_down : Trunk rows (get_or rows t blank).left
    trunk_down =
        let below = operand_below lawful true t (in_use true (get_or rows t blank).kind in_row) in
        let inner = trunk.within in
        record {
          within = omega arith;
          out = body_out t in_row;
          above = λ q up end. ⊎_elim
              (λ same. inr (subst (InRow rows) same in_row, omega (arith, ap (λ m. (get_or rows m blank).left) same)))
              (λ differs. ⊎_elim
              (λ low. inl (between t q up low (omega arith)))
              (λ over. ⊎_elim (λ scope. inl scope) (λ is. inr (is.0, omega (arith, is.1))) (trunk.above q (omega arith) end))
              (cases_lt q t))
              (cases_eq t q);
        }

  root : (n t : ℕ) → t < n → Trunk rows t → (u : ℕ) × Trunk rows u × (is_in (get_or rows u blank).kind ≡ false)
  root zero t low trunk = absurd (omega arith)
  root (suc n) t low trunk =
      ⊎_elim
      (λ in_row. let below = operand_below lawful true t (in_use true (get_or rows t blank).kind in_row) in root n (get_or rows t blank).left (omega arith) (trunk_down t trunk in_row))
      (λ not_in. (t, trunk, not_in))
      (cases_Bool (is_in (get_or rows t blank).kind))

  last_trunk : Trunk rows (length rows - 1)
  last_trunk =
      let some = lawful.some in
      record {
        within = omega arith;
        out = ap in_scope (last_outside rows lawful.tree (length rows - 1) (omega arith));
        above = λ q up end. absurd (omega arith);
      }

-- what the third step does at a row
write_scope : (h : Home) (i : ℕ) (r : Row) (d : Draft) → in_scope h ≡ true → write_step h i r d ≡ d
write_scope Outside i r d scope = absurd (false≢true scope)
write_scope (Body m) i r d scope = absurd (false≢true scope)
write_scope (Scope m) i r d scope = refl

write_in : (h : Home) (i : ℕ) (r : Row) (d : Draft) → in_scope h ≡ false → is_in r.kind ≡ true → write_step h i r d ≡ passed_on i r d
write_in Outside i r d out in_row = cond-true (is_in r.kind) (passed_on i r d) (copied i r d) in_row
write_in (Body m) i r d out in_row = cond-true (is_in r.kind) (passed_on i r d) (in_body m i r d) in_row
write_in (Scope m) i r d out in_row = absurd (true≢false out)

write_other : (h : Home) (i : ℕ) (r : Row) (d : Draft) → in_scope h ≡ false → is_in r.kind ≡ false → (ys : List Row) × (write_step h i r d ≡ wrote i ys d)
write_other Outside i r d out not_in = (moved r (place_of d r.left) (place_of d r.right) ∷ [], cond-false (is_in r.kind) (passed_on i r d) (copied i r d) not_in)
write_other (Body m) i r d out not_in = (body_rows r.kind r (length d.written) (get_or d.gates m 0) (get_or d.bars m 0) (place_of d r.left) (place_of d r.right), cond-false (is_in r.kind) (passed_on i r d) (in_body m i r d) not_in)
write_other (Scope m) i r d out not_in = absurd (true≢false out)

-- from row t on, the last row written is the result of every row below i that is in no scope
abbrev AtEnd : List Row → ℕ → ℕ → Draft → Type 0
AtEnd rows t i d = (j : ℕ) → t ≤ j → j < i → in_scope (home rows j) ≡ false → place_of d j ≡ length d.written - 1

module _ {rows : List Row} (lawful : Ruled rows) (t : ℕ) (trunk : Trunk rows t) (not_in : is_in (get_or rows t blank).kind ≡ false) where
  end_keeps : (i : ℕ) (d : Draft) → i < length rows → length d.places ≡ length rows → AtEnd rows t i d → AtEnd rows t (i + 1) (write_step (home rows i) i (get_or rows i blank) d)
  end_keeps i d within long ends =
      ⊎_elim
      (λ before j up low. absurd (omega arith))
      (λ here. ⊎_elim
      (λ scope. subst (AtEnd rows t (i + 1)) (sym (write_scope (home rows i) i r d scope)) (λ j up low out. ends j up (strict j low (λ same. both_ways (in_scope (home rows j)) out (subst (λ m. in_scope (home rows m) ≡ true) (sym same) scope))) out))
      (λ out. ⊎_elim (λ in_row. subst (AtEnd rows t (i + 1)) (sym (write_in (home rows i) i r d out in_row)) (passes here out in_row)) (λ no_in. writes here out no_in) (cases_Bool (is_in r.kind)))
      (cases_Bool (in_scope (home rows i))))
      (cases_lt i t)
    where
      r : Row
      r = get_or rows i blank

      strict : (j : ℕ) → j < i + 1 → (j ≡ i → ⊥) → j < i
      strict j low other = ⊎_elim (λ same. absurd (other same)) (λ differs. omega arith) (cases_eq j i)

      passes : t ≤ i → in_scope (home rows i) ≡ false → InRow rows i → AtEnd rows t (i + 1) (passed_on i r d)
      passes here out in_row j up low j_out =
          let below = operand_below lawful true i (in_use true r.kind in_row) in
          let over : t < i = ⊎_elim (λ same. absurd (both_ways (is_in (get_or rows t blank).kind) not_in (subst (InRow rows) (sym same) in_row))) (λ differs. omega arith) (cases_eq t i) in
          let reaches : t ≤ r.left = ⊎_elim (λ scope. absurd (both_ways (in_scope (home rows i)) out scope)) (λ is. is.1) (trunk.above i over within) in
          ⊎_elim
          (λ same. ap (λ m. get_or (set d.places i (place_of d r.left)) m 0) same ∙ get_or-set_same d.places i (place_of d r.left) 0 (omega arith) ∙ ends r.left reaches below (body_out lawful i in_row))
          (λ differs. get_or-set_other d.places i j (place_of d r.left) 0 differs ∙ ends j up (strict j low differs) j_out)
          (cases_eq j i)

      writes : t ≤ i → in_scope (home rows i) ≡ false → is_in r.kind ≡ false → AtEnd rows t (i + 1) (write_step (home rows i) i r d)
      writes here out no_in =
          let (ys, is) = write_other (home rows i) i r d out no_in in
          let at : i ≤ t = ⊎_elim (λ over. ⊎_elim (λ scope. absurd (both_ways (in_scope (home rows i)) out scope)) (λ in_row. absurd (both_ways (is_in r.kind) no_in in_row.0)) (trunk.above i over within)) (λ low. low) (cases_lt t i) in
          subst (AtEnd rows t (i + 1)) (sym is)
          (λ j up low j_out. let same : j ≡ i = omega arith in ap (λ m. get_or (set d.places i (length (d.written ++ ys) - 1)) m 0) same ∙ get_or-set_same d.places i (length (d.written ++ ys) - 1) 0 (omega arith))

  end_kept : AtEnd rows t (length rows) (after_rows rows)
  unfolding after_rows
  end_kept =
      (rising_keeps (λ i. write_step (home rows i) i) (λ i d. Kept rows (RowsBelow rows i) (Gates rows) d × AtEnd rows t i d) rows (after_gates rows)
      (λ i d within both. (write_keeps lawful i d within both.0, end_keeps i d within both.0.places_long both.1))
      (gates_kept lawful, λ j up low. absurd (omega arith))).1

pub last_place : {rows : List Row} → Ruled rows → place_of (after_rows rows) (length rows - 1) ≡ length (after_rows rows).written - 1
last_place {rows} lawful =
    let some = lawful.some in
    let (t, trunk, not_in) = root lawful (length rows) (length rows - 1) (omega arith) (last_trunk lawful) in
    let inner = trunk.within in
    end_kept lawful t trunk not_in (length rows - 1) (omega arith) (omega arith) (last_trunk lawful).out
