-- The parent of a row: the one row that it is an operand of, in a rule whose rows form a tree.
use Rattle.std.proofs.Common.{◌≡◌, ℕ, zero, suc, ◌+◌, ◌<◌, ◌≤◌, Bool, true, false, cond, ◌||◌, List, [], ◌∷◌, length, get_or, drop, sym, refl, ap, ◌∙◌, ⊎_elim, add-one, arith}
use Rattle.std.proofs.lemmas.List.{drop_more, get_or_past}
use Rattle.std.proofs.lemmas.List.Sums.{sum_by-cons, get_or-le-sum_by}
use Rattle.std.proofs.lemmas.Bool.{cases_lt, cases_Bool, false≢true}
use Rattle.rows.specs.Kinds.{is_in}
use Rattle.rows.specs.Rows.{blank, left_is, right_is, uses_by, uses}
use Rattle.rows.specs.Homes.{left_home, right_home, in_scope, home_from, home}
use Rattle.rows.specs.Reach.{Operand, InRow, Tree}
use Rattle.rows.specs.declared.kind.Kind.{Kind}
use Rattle.rows.specs.declared.row.Row.{Row}
use Rattle.rows.specs.declared.home.Home.{Home}
use Rattle.rows.specs.declared.home.Home.TheVariants.{Body, Scope}
use Rattle.rows.proofs.Halves.{half_is}

pub operand_within : (rows : List Row) (j i : ℕ) → Operand rows j i → j < length rows
operand_within rows j i operand =
    ⊎_elim (λ l. l) (λ l. absurd (false≢true (rw (get_or_past rows j blank l) at operand))) (cases_lt j (length rows))

pub in_within : (rows : List Row) (k : ℕ) → InRow rows k → k < length rows
in_within rows k in_row =
    ⊎_elim (λ l. l) (λ l. absurd (false≢true (rw (get_or_past rows k blank l) at in_row))) (cases_lt k (length rows))

-- a row that uses row i once has it in one half
pub side_of : (r : Row) (i : ℕ) → uses_by r i ≡ 1 → (side : Bool) × (half_is side r i ≡ true)
side_of r i once =
    let other : left_is r i ≡ false → right_is r i ≡ true = λ not_left. grind arith in
    ⊎_elim (λ is_left. (true, is_left)) (λ not_left. (false, other not_left)) (cases_Bool (left_is r i))

pub one_side : (s t : Bool) (r : Row) (i : ℕ) → uses_by r i ≡ 1 → half_is s r i ≡ true → half_is t r i ≡ true → s ≡ t
one_side s t r i once first second = grind arith

-- Row p is the only row with operand i, and has it once, in this half.
pub record Parent (rows : List Row) (i p : ℕ) (side : Bool) : Type 0 where
  pub within : p < length rows
  pub once : uses_by (get_or rows p blank) i ≡ 1
  pub named : half_is side (get_or rows p blank) i ≡ true
  pub only : (q : ℕ) → Operand rows q i → q ≡ p

pub used : (r : Row) (i : ℕ) → (left_is r i || right_is r i) ≡ true → 0 < uses_by r i
used r i operand = grind arith

pub unused : (rows : List Row) (i : ℕ) → uses rows i ≡ 0 → (q : ℕ) → Operand rows q i → ⊥
unused rows i none q operand =
    omega (arith, used (get_or rows q blank) i operand, get_or-le-sum_by (λ r. uses_by r i) rows q blank (operand_within rows q i operand))

-- a row that is used once has a parent
pub find : (rows : List Row) (i : ℕ) → uses rows i ≡ 1 → (p : ℕ) × (side : Bool) × Parent rows i p side
find [] i once = absurd (omega arith)
find (r ∷ rest) i once =
    let sum : uses_by r i + uses rest i ≡ 1 = sym (sum_by-cons (λ x. uses_by x i) r rest) ∙ once in
    ⊎_elim (λ (not_first : uses_by r i < 1). later not_first (find rest i (omega arith)))
    (λ (is_first : 1 ≤ uses_by r i). first (omega arith) (omega arith)) (cases_lt (uses_by r i) 1)
  where
    later : uses_by r i < 1 → (p : ℕ) × (side : Bool) × Parent rest i p side → (p : ℕ) × (side : Bool) × Parent (r ∷ rest) i p side
    later not_first found =
        let (p, side, parent) = found in
        let only : (q : ℕ) → Operand (r ∷ rest) q i → q ≡ suc p = elim [ zero ↦ (λ operand. absurd (omega (arith, used r i operand))) | suc q ↦ (λ operand. ap suc (parent.only q operand)) ] in
        (suc p, side, record { within = omega (arith, parent.within); once = parent.once; named = parent.named; only = only })

    first : uses_by r i ≡ 1 → uses rest i ≡ 0 → (p : ℕ) × (side : Bool) × Parent (r ∷ rest) i p side
    first once none =
        let (side, named) = side_of r i once in
        let only : (q : ℕ) → Operand (r ∷ rest) q i → q ≡ 0 = elim [ zero ↦ (λ operand. refl) | suc q ↦ (λ operand. absurd (unused rest i none q operand)) ] in
        (0, side, record { within = omega arith; once = once; named = named; only = only })

-- the home that a row gives to an operand, by the half
abbrev pub given : Bool → Kind → ℕ → Home → Home
given side kind n h = cond side (left_home kind n h) (right_home kind n h)

pub given_same : (side : Bool) (kind : Kind) (n : ℕ) (h : Home) → is_in kind ≡ false → given side kind n h ≡ h
given_same side kind n h not_in = grind arith

pub given_new : (side : Bool) (kind : Kind) (n : ℕ) (h : Home) → is_in kind ≡ true → in_scope h ≡ false → given side kind n h ≡ cond side (Body n) (Scope n)
given_new side kind n h in_row flat = grind arith

pub given_keeps_scope : (side : Bool) (kind : Kind) (n : ℕ) (h : Home) → in_scope h ≡ true → in_scope (given side kind n h) ≡ true
given_keeps_scope side kind n h scope = grind arith

-- the choice of home_from at a row without operand i, and at one that has it once
pub choice_none : (r : Row) (i : ℕ) (a b c : Home) → ((left_is r i || right_is r i) ≡ true → ⊥) → cond (left_is r i) a (cond (right_is r i) b c) ≡ c
choice_none r i a b c none = grind arith

pub choice_one : (side : Bool) (r : Row) (i : ℕ) (a b c : Home) → uses_by r i ≡ 1 → half_is side r i ≡ true → cond (left_is r i) a (cond (right_is r i) b c) ≡ cond side a b
choice_one side r i a b c once named = grind arith

-- the first rows do not count for the home of a row that is no operand of theirs
pub skip : (rows : List Row) (i n : ℕ) → n ≤ length rows → ((j : ℕ) → j < n → Operand rows j i → ⊥) → home rows i ≡ home_from n (drop n rows) i
unfolding home_from home
skip rows i zero within none = refl
skip rows i (suc n) within none =
    let r = get_or rows n blank in
    let own = home_from (n + 1) (drop (n + 1) rows) n in
    let other = home_from (n + 1) (drop (n + 1) rows) i in
    skip rows i n (omega arith) (λ j before. none j (omega arith))
    ∙ ap (λ l. home_from n l i) (drop_more rows n blank within)
    ∙ choice_none r i (left_home r.kind n own) (right_home r.kind n own) other (none n (omega arith))
    ∙ ap (λ m. home_from m (drop m rows) i) (add-one n)

module _ (rows : List Row) (tree : Tree rows) where
  pub home_by : {i p : ℕ} {side : Bool} → Parent rows i p side → home rows i ≡ given side (get_or rows p blank).kind p (home rows p)
  unfolding home_from
  home_by {i} {p} {side} parent =
      let r = get_or rows p blank in
      let own = home_from (p + 1) (drop (p + 1) rows) p in
      let other = home_from (p + 1) (drop (p + 1) rows) i in
      skip rows i p (omega (arith, parent.within)) (λ j before operand. omega (arith, parent.only j operand))
      ∙ ap (λ l. home_from p l i) (drop_more rows p blank parent.within)
      ∙ choice_one side r i (left_home r.kind p own) (right_home r.kind p own) other parent.once parent.named
      ∙ ap (given side r.kind p) (sym (skip rows p (p + 1) (omega (arith, parent.within)) (λ j before operand. omega (arith, tree.below j p operand))))
