-- The formula of the gate of an in row, and the formula that has to stand at the place of each row.
use Rattle.std.proofs.Common.{◌≡◌, ℕ, zero, suc, ◌+◌, ◌<◌, ◌≤◌, Bool, true, false, cond, List, length, get_or, sym, refl, ap, ◌∙◌, arith}
use Rattle.std.proofs.lemmas.Bool.{true≢false}
use Rattle.meaning.specs.Formulas.{Formula, top, and, inside, formula_by, formula_at}
use Rattle.meaning.specs.Gated.{gated, plain}
use Rattle.rows.specs.Homes.{home, in_scope}
use Rattle.rows.specs.Kinds.{is_in}
use Rattle.rows.specs.Reach.{InRow}
use Rattle.rows.specs.Rows.{blank}
use Rattle.rows.specs.declared.home.Home.{Home}
use Rattle.rows.specs.declared.home.Home.TheVariants.{Outside, Body, Scope}
use Rattle.rows.specs.declared.kind.HalfUse.TheVariants.{Operand}
use Rattle.rows.specs.declared.kind.Kind.{Kind}
use Rattle.rows.specs.declared.kind.Kind.TheVariants.{Top, Flag, Code, Not, And, Or, Next, Until, Always, Eventually, In}
use Rattle.rows.specs.declared.row.Row.{Row}
use Rattle.rows.proofs.Halves.{half, half_use, in_use}
use Rattle.rows.proofs.Operands.{body_of}
use Rattle.rows.proofs.Parents.{given_same, given_new}
use Rattle.scopes.specs.Ruled.{Ruled}
use Rattle.scopes.proofs.Rules.{operand_stands, rule_formula}

-- the gate of a scope in this home, with the gates of the in rows above
abbrev pub gate_by : Home → (ℕ → Formula) → Formula → Formula
gate_by Outside above scope = scope
gate_by (Body m) above scope = and (above m) scope
gate_by (Scope m) above scope = scope

-- through at most so many bodies
unfoldable pub gate_up : List Row → ℕ → ℕ → Formula
gate_up rows zero k = top
gate_up rows (suc bodies) k = gate_by (home rows k) (gate_up rows bodies) (formula_at rows (get_or rows k blank).right)

unfoldable pub gate_formula : List Row → ℕ → Formula
gate_formula rows k = gate_up rows (length rows) k

abbrev pub wanted_at : (ℕ → Formula) → Home → Formula → Formula
wanted_at gate Outside a = plain a
wanted_at gate (Body m) a = gated (gate m) a
wanted_at gate (Scope m) a = a

abbrev pub wanted : List Row → ℕ → Formula
wanted rows i = wanted_at (gate_formula rows) (home rows i) (formula_at rows i)

-- a formula is translated operand by operand where no gate is
pub wanted_copied : (gate : ℕ → Formula) (h : Home) (kind : Kind) (l r : ℕ) (x y : Formula) → is_in kind ≡ false → ((k : ℕ) → h ≡ Body k → ⊥) → wanted_at gate h (formula_by kind l r x y) ≡ formula_by kind l r (wanted_at gate h x) (wanted_at gate h y)
unfolding plain
wanted_copied gate Outside Top l r x y not_in no_body = refl
wanted_copied gate Outside Flag l r x y not_in no_body = refl
wanted_copied gate Outside Code l r x y not_in no_body = refl
wanted_copied gate Outside Not l r x y not_in no_body = refl
wanted_copied gate Outside And l r x y not_in no_body = refl
wanted_copied gate Outside Or l r x y not_in no_body = refl
wanted_copied gate Outside Next l r x y not_in no_body = refl
wanted_copied gate Outside Until l r x y not_in no_body = refl
wanted_copied gate Outside Always l r x y not_in no_body = refl
wanted_copied gate Outside Eventually l r x y not_in no_body = refl
wanted_copied gate Outside In l r x y not_in no_body = absurd (true≢false not_in)
wanted_copied gate (Body m) kind l r x y not_in no_body = absurd (no_body m refl)
wanted_copied gate (Scope m) kind l r x y not_in no_body = refl

-- only the gate around counts
gate_same : (h : Home) (f e : ℕ → Formula) (scope : Formula) → ((m : ℕ) → h ≡ Body m → f m ≡ e m) → gate_by h f scope ≡ gate_by h e scope
gate_same Outside f e scope same = refl
gate_same (Body m) f e scope same = ap (λ g. and g scope) (same m refl)
gate_same (Scope m) f e scope same = refl

module _ {rows : List Row} (lawful : Ruled rows) where
  -- more bodies than there are rows above do not count
  enough : (f e k : ℕ) → k < length rows → length rows ≤ k + f → length rows ≤ k + e → gate_up rows f k ≡ gate_up rows e k
  unfolding gate_up
  enough zero e k within low high = absurd (omega arith)
  enough (suc f) zero k within low high = absurd (omega arith)
  enough (suc f) (suc e) k within low high =
      gate_same (home rows k) (gate_up rows f) (gate_up rows e) (formula_at rows (get_or rows k blank).right)
      (λ m is. let above = body_of rows lawful.tree lawful.flat k m within is in enough f e m above.1 (omega (arith, above.0)) (omega (arith, above.0)))

  pub gate_is : (k : ℕ) → k < length rows → gate_formula rows k ≡ gate_by (home rows k) (gate_formula rows) (formula_at rows (get_or rows k blank).right)
  unfolding gate_up gate_formula
  gate_is k within = enough (length rows) (suc (length rows)) k within (omega arith) (omega arith)

  -- an operand of a row that is no in row is translated as that row is
  pub wanted_same : (side : Bool) (i : ℕ) → half_use side (get_or rows i blank).kind ≡ Operand → is_in (get_or rows i blank).kind ≡ false → wanted rows (half side (get_or rows i blank)) ≡ wanted_at (gate_formula rows) (home rows i) (formula_at rows (half side (get_or rows i blank)))
  wanted_same side i is not_in =
      let r = get_or rows i blank in
      ap (λ h. wanted_at (gate_formula rows) h (formula_at rows (half side r))) (operand_stands lawful side i is ∙ given_same side r.kind i (home rows i) not_in)

  module _ (i : ℕ) (in_row : InRow rows i) (out : in_scope (home rows i) ≡ false) where
    in_home : (side : Bool) → home rows (half side (get_or rows i blank)) ≡ cond side (Body i) (Scope i)
    in_home side =
        let kind = (get_or rows i blank).kind in
        operand_stands lawful side i (in_use side kind in_row) ∙ given_new side kind i (home rows i) in_row out

    -- the body of an in row stands behind its gate, and its scope as it is
    pub wanted_body : wanted rows (get_or rows i blank).left ≡ gated (gate_formula rows i) (formula_at rows (get_or rows i blank).left)
    wanted_body = ap (λ h. wanted_at (gate_formula rows) h (formula_at rows (get_or rows i blank).left)) (in_home true)

    pub wanted_scope : wanted rows (get_or rows i blank).right ≡ formula_at rows (get_or rows i blank).right
    wanted_scope = ap (λ h. wanted_at (gate_formula rows) h (formula_at rows (get_or rows i blank).right)) (in_home false)

    -- so an in row is what its body is
    pub wanted_in : i < length rows → wanted rows i ≡ wanted rows (get_or rows i blank).left
    unfolding plain gated
    wanted_in within =
        ap (wanted_at (gate_formula rows) (home rows i)) (rule_formula lawful i within ∙ by_in r.kind in_row)
        ∙ go (home rows i) out
        ∙ ap (λ g. gated g a) (sym (gate_is i within))
        ∙ sym wanted_body
      where
        r : Row
        r = get_or rows i blank

        a : Formula
        a = formula_at rows r.left

        s : Formula
        s = formula_at rows r.right

        by_in : (kind : Kind) → is_in kind ≡ true → formula_by kind r.left r.right a s ≡ inside a s
        by_in kind is = grind arith

        go : (h : Home) → in_scope h ≡ false → wanted_at (gate_formula rows) h (inside a s) ≡ gated (gate_by h (gate_formula rows) s) a
        go Outside is = refl
        go (Body m) is = refl
        go (Scope m) is = absurd (true≢false is)
