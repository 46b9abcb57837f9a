-- The mark of one row of a table, on the empty session and on one more state.
use Rattle.std.proofs.Common.{◌≡◌, ℕ, ◌<◌, Bool, true, false, cond, ◌||◌, List, [], ◌∷◌, length, get_or, sym, refl, ap, ◌∙◌, ap₂, arith}
use Rattle.std.proofs.lemmas.Bool.{true≢false}
use Rattle.std.proofs.lemmas.Bool.Decides.{nat_tests}
use Rattle.rows.specs.Kinds.{is_in, left_use, right_use, names_row}
use Rattle.rows.specs.Rows.{blank}
use Rattle.rows.specs.declared.kind.HalfUse.TheVariants.{Operand as OperandUse}
use Rattle.rows.specs.declared.kind.Kind.{Kind}
use Rattle.rows.specs.declared.kind.Kind.TheVariants.{Top, Flag, Code, Not, And, Or, Next, Until, Always, Eventually, In}
use Rattle.rows.specs.declared.row.Row.{Row}
use Rattle.scales.specs.Lattice.{Lattice, Laws}
use Rattle.sessions.specs.States.{flag_of, Alike}
use Rattle.sessions.specs.declared.state.State.{State}
use Rattle.meaning.specs.Formulas.{Formula, formula_by, formula_at}
use Rattle.meaning.specs.Meaning.{mark, row_mark}
use Rattle.meaning.specs.Operators.{next_mark}
use Rattle.meaning.proofs.Formulas.{formula_row}
use Rattle.meaning.proofs.Steps.{always_none, always_step, eventually_none, eventually_step, until_none, until_step, next_step}
use Rattle.marking.specs.Marks.{Fits, Sound, some, empty_by, state_by}

-- a row fits if each half that is an operand is below it, and the other way round
pub fits_by : (kind : Kind) (i left right : ℕ) → (left_use kind ≡ OperandUse → left < i) → (right_use kind ≡ OperandUse → right < i) → Fits kind i left right
fits_by Top i l r low below = tt
fits_by Flag i l r low below = tt
fits_by Code i l r low below = tt
fits_by Not i l r low below = low refl
fits_by And i l r low below = (low refl, below refl)
fits_by Or i l r low below = (low refl, below refl)
fits_by Next i l r low below = low refl
fits_by Until i l r low below = (low refl, below refl)
fits_by Always i l r low below = low refl
fits_by Eventually i l r low below = low refl
fits_by In i l r low below = (low refl, below refl)

pub fits_left : (kind : Kind) (i left right : ℕ) → Fits kind i left right → left_use kind ≡ OperandUse → left < i
fits_left kind i l r fits is = grind arith

pub fits_right : (kind : Kind) (i left right : ℕ) → Fits kind i left right → right_use kind ≡ OperandUse → right < i
fits_right kind i l r fits is = grind arith

-- an operand of a row that fits is below it
fits_below : (kind : Kind) (i left right j : ℕ) → Fits kind i left right → (names_row (left_use kind) left j || names_row (right_use kind) right j) ≡ true → j < i
fits_below kind i l r j fits named = grind (arith, nat_tests)

pub formula_is : (rows : List Row) (i : ℕ) → Sound rows → i < length rows → formula_at rows i ≡ formula_by (get_or rows i blank).kind (get_or rows i blank).left (get_or rows i blank).right (formula_at rows (get_or rows i blank).left) (formula_at rows (get_or rows i blank).right)
formula_is rows i sound within =
    let row = get_or rows i blank in
    formula_row rows i within (λ j operand. fits_below row.kind i row.left row.right j (sound i within) operand)

module _ {M : Type 0} (L : Lattice M) where
  empty_kind : (kind : Kind) (left right : ℕ) (a b : Formula) → mark L (formula_by kind left right a b) [] ≡ empty_by L kind (mark L a []) (mark L b [])
  unfolding mark
  empty_kind Top l r a b = refl
  empty_kind Flag l r a b = refl
  empty_kind Code l r a b = refl
  empty_kind Not l r a b = refl
  empty_kind And l r a b = refl
  empty_kind Or l r a b = refl
  empty_kind Next l r a b = refl
  empty_kind Until l r a b = until_none L (mark L a) (mark L b)
  empty_kind Always l r a b = always_none L (mark L a)
  empty_kind Eventually l r a b = eventually_none L (mark L a)
  empty_kind In l r a b = refl

  next_is : (a : List State → M) (s : State) (w : List State) → next_mark L a (s ∷ w) ≡ cond (some w) (a w) L.bottom
  next_is a s [] = refl
  next_is a s (t ∷ w) = next_step L a s t w

  pub state_kind : Laws L → (kind : Kind) (left right : ℕ) (a b : Formula) (s : State) (w : List State) → is_in kind ≡ false → mark L (formula_by kind left right a b) (s ∷ w) ≡ state_by L kind left s (some w) (mark L a (s ∷ w)) (mark L b (s ∷ w)) (mark L a w) (mark L (formula_by kind left right a b) w)
  unfolding mark
  state_kind laws Top l r a b s w no_in = refl
  state_kind laws Flag l r a b s w no_in = refl
  state_kind laws Code l r a b s w no_in = refl
  state_kind laws Not l r a b s w no_in = refl
  state_kind laws And l r a b s w no_in = refl
  state_kind laws Or l r a b s w no_in = refl
  state_kind laws Next l r a b s w no_in = next_is (mark L a) s w
  state_kind laws Until l r a b s w no_in = until_step L laws (mark L a) (mark L b) s w
  state_kind laws Always l r a b s w no_in = always_step L (mark L a) s w
  state_kind laws Eventually l r a b s w no_in = eventually_step L (mark L a) s w
  state_kind laws In l r a b s w no_in = absurd (true≢false no_in)

  -- by the formula of the row
  module _ (rows : List Row) (i : ℕ) (is : formula_at rows i ≡ formula_by (get_or rows i blank).kind (get_or rows i blank).left (get_or rows i blank).right (formula_at rows (get_or rows i blank).left) (formula_at rows (get_or rows i blank).right)) where
    pub empty_row : row_mark L rows i [] ≡ empty_by L (get_or rows i blank).kind (row_mark L rows (get_or rows i blank).left []) (row_mark L rows (get_or rows i blank).right [])
    empty_row =
        let row = get_or rows i blank in
        ap (λ f. mark L f []) is ∙ empty_kind row.kind row.left row.right (formula_at rows row.left) (formula_at rows row.right)

    pub state_row : Laws L → (s : State) (w : List State) → is_in (get_or rows i blank).kind ≡ false → row_mark L rows i (s ∷ w) ≡ state_by L (get_or rows i blank).kind (get_or rows i blank).left s (some w) (row_mark L rows (get_or rows i blank).left (s ∷ w)) (row_mark L rows (get_or rows i blank).right (s ∷ w)) (row_mark L rows (get_or rows i blank).left w) (row_mark L rows i w)
    state_row laws s w no_in =
        let row = get_or rows i blank in
        let a = formula_at rows row.left in
        let b = formula_at rows row.right in
        ap (λ f. mark L f (s ∷ w)) is
        ∙ state_kind laws row.kind row.left row.right a b s w no_in
        ∙ ap (state_by L row.kind row.left s (some w) (mark L a (s ∷ w)) (mark L b (s ∷ w)) (mark L a w)) (ap (λ f. mark L f w) (sym is))

  -- only the marks of operands count
  pub empty_same : (kind : Kind) (a b c d : M) → (left_use kind ≡ OperandUse → a ≡ c) → (right_use kind ≡ OperandUse → b ≡ d) → empty_by L kind a b ≡ empty_by L kind c d
  empty_same Top a b c d p q = refl
  empty_same Flag a b c d p q = refl
  empty_same Code a b c d p q = refl
  empty_same Not a b c d p q = ap L.complement (p refl)
  empty_same And a b c d p q = ap₂ L.meet (p refl) (q refl)
  empty_same Or a b c d p q = ap₂ L.join (p refl) (q refl)
  empty_same Next a b c d p q = refl
  empty_same Until a b c d p q = refl
  empty_same Always a b c d p q = refl
  empty_same Eventually a b c d p q = refl
  empty_same In a b c d p q = p refl

  pub state_same : (kind : Kind) (left : ℕ) (s t : State) (later : Bool) (a b c d after next own : M) → Alike s t → (left_use kind ≡ OperandUse → a ≡ c) → (right_use kind ≡ OperandUse → b ≡ d) → (left_use kind ≡ OperandUse → after ≡ next) → state_by L kind left s later a b after own ≡ state_by L kind left t later c d next own
  state_same Top l s t later a b c d after next own alike p q then = refl
  state_same Flag l s t later a b c d after next own alike p q then = ap (λ word. cond (flag_of l word) L.top L.bottom) alike.flags
  state_same Code l s t later a b c d after next own alike p q then = ap L.reading (alike.codes l)
  state_same Not l s t later a b c d after next own alike p q then = ap L.complement (p refl)
  state_same And l s t later a b c d after next own alike p q then = ap₂ L.meet (p refl) (q refl)
  state_same Or l s t later a b c d after next own alike p q then = ap₂ L.join (p refl) (q refl)
  state_same Next l s t later a b c d after next own alike p q then = ap (λ m. cond later m L.bottom) (then refl)
  state_same Until l s t later a b c d after next own alike p q then = ap₂ (λ x y. L.join y (L.meet x own)) (p refl) (q refl)
  state_same Always l s t later a b c d after next own alike p q then = ap (λ m. L.meet m own) (p refl)
  state_same Eventually l s t later a b c d after next own alike p q then = ap (λ m. L.join m own) (p refl)
  state_same In l s t later a b c d after next own alike p q then = p refl
