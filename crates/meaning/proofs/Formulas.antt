-- The formulas of rows, one by one: what is appended changes none, and each is made from those of the row's operands.
use Rattle.std.proofs.Common.{◌≡◌, ℕ, ◌+◌, ◌<◌, Bool, true, false, List, [], ◌∷◌, ◌++◌, length, get_or, take, drop, sym, refl, ap, ◌∙◌, ap₂, arith}
use Rattle.std.proofs.lemmas.List.{append_assoc, length_push, get_or_append_left, get_or_push, take-append-drop, length-take-le, drop_more}
use Rattle.meaning.specs.Formulas.{Formula, top, not, and, or, next, until, always, eventually, inside, built, formula_by, formula_of, formulas, formula_at}
use Rattle.rows.specs.Kinds.{left_use, right_use}
use Rattle.rows.specs.Reach.{Operand}
use Rattle.rows.specs.Rows.{blank}
use Rattle.rows.specs.declared.kind.HalfUse.TheVariants.{Operand as OperandUse}
use Rattle.rows.specs.declared.kind.Kind.{Kind}
use Rattle.rows.specs.declared.kind.Kind.TheVariants.{Top, Flag, Code, Not, And, Or, Next, Until, Always, Eventually, In}
use Rattle.rows.specs.declared.row.Row.{Row}
use Rattle.rows.proofs.Halves.{half_use, half, half_operand, named_half}

-- values made row by row, by any step
module _ {R X : Type 0} (step : List X → R → X) where
  pub length_built : (below : List X) (rows : List R) → length (built step below rows) ≡ length below + length rows
  unfolding built
  length_built below [] = omega arith
  length_built below (r ∷ rows) = omega (arith, length_built (below ++ (step below r ∷ [])) rows, length_push below (step below r))

  pub built_append : (below : List X) (xs ys : List R) → built step below (xs ++ ys) ≡ built step (built step below xs) ys
  unfolding built
  built_append below [] ys = refl
  built_append below (r ∷ xs) ys = built_append (below ++ (step below r ∷ [])) xs ys

  pub built_keeps : (below : List X) (rows : List R) (i : ℕ) (d : X) → i < length below → get_or (built step below rows) i d ≡ get_or below i d
  unfolding built
  built_keeps below [] i d within = refl
  built_keeps below (r ∷ rows) i d within =
      built_keeps (below ++ (step below r ∷ [])) rows i d (omega (arith, length_push below (step below r)))
      ∙ get_or_append_left below (step below r ∷ []) d i within

  -- what is appended changes no value
  pub built_kept : (xs ys : List R) (i : ℕ) (d : X) → i < length xs → get_or (built step [] (xs ++ ys)) i d ≡ get_or (built step [] xs) i d
  built_kept xs ys i d within =
      ap (λ l. get_or l i d) (built_append [] xs ys)
      ∙ built_keeps (built step [] xs) ys i d (omega (arith, length_built [] xs))

  -- the value of an appended row
  pub built_new : (xs : List R) (r : R) (i : ℕ) (d : X) → length xs ≡ i → get_or (built step [] (xs ++ (r ∷ []))) i d ≡ step (built step [] xs) r
  unfolding built
  built_new xs r i d here =
      ap (λ l. get_or l i d) (built_append [] xs (r ∷ []))
      ∙ get_or_push (built step [] xs) (step (built step [] xs) r) d i (omega (arith, length_built [] xs))

  -- the value of row i, by the values of the rows below it
  pub built_at : (rows : List R) (i : ℕ) (e : R) (d : X) → i < length rows → get_or (built step [] rows) i d ≡ step (built step [] (take i rows)) (get_or rows i e)
  built_at rows i e d within =
      let r = get_or rows i e in
      let front = take i rows in
      let rest = drop (i + 1) rows in
      let long : length front ≡ i = length-take-le i rows (omega arith) in
      let split : rows ≡ (front ++ (r ∷ [])) ++ rest = sym (take-append-drop i rows) ∙ ap (λ l. front ++ l) (drop_more rows i e within) ∙ sym (append_assoc front (r ∷ []) rest) in
      ap (λ l. get_or (built step [] l) i d) split
      ∙ built_kept (front ++ (r ∷ [])) rest i d (omega (arith, length_push front r))
      ∙ built_new front r i d long

pub length_formulas : (rows : List Row) → length (formulas rows) ≡ length rows
unfolding formulas
length_formulas rows = omega (arith, length_built formula_of [] rows)

pub formula_kept : (xs ys : List Row) (i : ℕ) → i < length xs → formula_at (xs ++ ys) i ≡ formula_at xs i
unfolding formulas
formula_kept xs ys i within = built_kept formula_of xs ys i top within

pub formula_new : (xs : List Row) (r : Row) (i : ℕ) → length xs ≡ i → formula_at (xs ++ (r ∷ [])) i ≡ formula_of (formulas xs) r
unfolding formulas
formula_new xs r i here = built_new formula_of xs r i top here

-- only operands count
pub formula_by_same : (kind : Kind) (left right : ℕ) {a b c d : Formula} → (left_use kind ≡ OperandUse → a ≡ c) → (right_use kind ≡ OperandUse → b ≡ d) → formula_by kind left right a b ≡ formula_by kind left right c d
formula_by_same Top left right p q = refl
formula_by_same Flag left right p q = refl
formula_by_same Code left right p q = refl
formula_by_same Not left right p q = ap not (p refl)
formula_by_same And left right p q = ap₂ and (p refl) (q refl)
formula_by_same Or left right p q = ap₂ or (p refl) (q refl)
formula_by_same Next left right p q = ap next (p refl)
formula_by_same Until left right p q = ap₂ until (p refl) (q refl)
formula_by_same Always left right p q = ap always (p refl)
formula_by_same Eventually left right p q = ap eventually (p refl)
formula_by_same In left right p q = ap₂ inside (p refl) (q refl)

-- the formula of row i, by those of its operands, which are below it
pub formula_row : (rows : List Row) (i : ℕ) → i < length rows → ((j : ℕ) → Operand rows i j → j < i) → formula_at rows i ≡ formula_by (get_or rows i blank).kind (get_or rows i blank).left (get_or rows i blank).right (formula_at rows (get_or rows i blank).left) (formula_at rows (get_or rows i blank).right)
unfolding formulas
formula_row rows i within below =
    let r = get_or rows i blank in
    let long : length (take i rows) ≡ i = length-take-le i rows (omega arith) in
    let same : (side : Bool) → half_use side r.kind ≡ OperandUse → formula_at (take i rows) (half side r) ≡ formula_at rows (half side r) = λ side is. sym (formula_kept (take i rows) (drop i rows) (half side r) (omega (arith, below (half side r) (half_operand side r (half side r) (named_half side r is))))) ∙ ap (λ l. formula_at l (half side r)) (take-append-drop i rows) in
    built_at formula_of rows i blank top within ∙ formula_by_same r.kind r.left r.right (same true) (same false)
