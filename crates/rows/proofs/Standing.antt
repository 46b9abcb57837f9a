-- The home of every row is what its name says, by what is reached.
use Rattle.std.proofs.Common.{◌≡◌, ℕ, zero, suc, ◌+◌, ◌<◌, ◌≤◌, Bool, true, false, cond, eqb, ◌⊎◌, List, length, get_or, sym, refl, ap, ◌∙◌, subst, inl, inr, ⊎_elim, arith}
use Rattle.std.proofs.lemmas.List.{drop_all}
use Rattle.std.proofs.lemmas.Bool.{both_ways, false_from_ne_true, eqb-true, eq-eqb, cases_lt, cases_Bool, false≢true}
use Rattle.rows.specs.Kinds.{is_in}
use Rattle.rows.specs.Rows.{blank}
use Rattle.rows.specs.Homes.{in_scope, home_from, home}
use Rattle.rows.specs.Reach.{Operand, Reached, here, down, InRow, InScope, Tree, Flat, Stands, Scoped}
use Rattle.rows.specs.declared.kind.Kind.{Kind}
use Rattle.rows.specs.declared.row.Row.{Row}
use Rattle.rows.specs.declared.home.Home.{Home}
use Rattle.rows.specs.declared.home.Home.TheVariants.{Outside, Body, Scope}
use Rattle.rows.proofs.Halves.{half, half_is, half_operand}
use Rattle.rows.proofs.Parents.{operand_within, one_side, Parent, find, given, given_same, given_new, given_keeps_scope, skip, home_by}

abbrev row : List Row → ℕ → Row
row rows n = get_or rows n blank

in_half : (side : Bool) (r : Row) (i : ℕ) → is_in r.kind ≡ true → half_is side r i ≡ eqb (half side r) i
in_half side r i in_row = grind arith

-- row i is in the body, in the scope, of in row k
abbrev Inside : Bool → List Row → ℕ → ℕ → Type 0
Inside side rows k i = InRow rows k × Reached rows (half side (row rows k)) i

reached_by : (rows : List Row) (x i : ℕ) → Reached rows x i → (x ≡ i) ⊎ ((j : ℕ) × Reached rows x j × Operand rows j i)
reached_by rows x _ here = inl refl
reached_by rows x _ (down j i reached operand) = inr (j, reached, operand)

-- what is inside is named by that half of the in row, or an operand of a row that is inside
inside_by : (side : Bool) (rows : List Row) (k i : ℕ) → Inside side rows k i → (half_is side (row rows k) i ≡ true) ⊎ ((j : ℕ) × Inside side rows k j × Operand rows j i)
inside_by side rows k i inside =
    let r = row rows k in
    ⊎_elim (λ e. inl (in_half side r i inside.0 ∙ eq-eqb (half side r) i e)) (λ by. inr (by.0, (inside.0, by.1), by.2)) (reached_by rows (half side r) i inside.1)

-- what is inside stands below the in row
inside_below : (side : Bool) (rows : List Row) (k : ℕ) → Tree rows → InRow rows k → (i : ℕ) → Reached rows (half side (row rows k)) i → i < k
inside_below side rows k tree in_row _ here =
    let r = row rows k in
    let i = half side r in
    tree.below k i (half_operand side r i (in_half side r i in_row ∙ eq-eqb i i refl))
inside_below side rows k tree in_row _ (down j i reached operand) =
    omega (arith, inside_below side rows k tree in_row j reached, tree.below j i operand)

-- a row whose home is no scope is in no scope
no_scope : (rows : List Row) (i : ℕ) (h : Home) → (in_scope h ≡ true → ⊥) → Stands rows i h → (k : ℕ) → InScope rows k i → ⊥
no_scope rows i Outside flat stands k = (stands k).1
no_scope rows i (Body m) flat stands k = stands.2 k
no_scope rows i (Scope m) flat stands k = absurd (flat refl)

module _ {rows : List Row} {i p : ℕ} {side : Bool} (tree : Tree rows) (parent : Parent rows i p side) where
  parent_operand : Operand rows p i
  parent_operand = half_operand side (row rows p) i parent.named

  -- what the row is inside of, its parent is inside of too, except the parent's own half
  inside_up : (s : Bool) (k : ℕ) → Inside s rows k i → ((k ≡ p) × (s ≡ side)) ⊎ Inside s rows k p
  inside_up s k inside = ⊎_elim (λ is. inl (own is)) (λ by. inr (above by.0 by.1 by.2)) (inside_by s rows k i inside)
    where
      own : half_is s (row rows k) i ≡ true → (k ≡ p) × (s ≡ side)
      own is =
          let same : k ≡ p = parent.only k (half_operand s (row rows k) i is) in
          (same, one_side s side (row rows p) i parent.once (rw same at is) parent.named)

      above : (j : ℕ) → Inside s rows k j → Operand rows j i → Inside s rows k p
      above j inside operand = rw (parent.only j operand) at inside

  inside_down : (s : Bool) (k : ℕ) → Inside s rows k p → Inside s rows k i
  inside_down s k inside = (inside.0, down p i inside.1 parent_operand)

  inside_own : InRow rows p → Inside side rows p i
  inside_own in_row =
      let r = row rows p in
      let same : half side r ≡ i = eqb-true (half side r) i (sym (in_half side r i in_row) ∙ parent.named) in
      (in_row, subst (Reached rows (half side r)) same here)

  -- an operand of a row that is no in row stands where that row stands
  stands_same : is_in (row rows p).kind ≡ false → (h : Home) → Stands rows p h → Stands rows i h
  stands_same not_in = go
    where
      up : (s : Bool) (k : ℕ) → Inside s rows k i → Inside s rows k p
      up s k inside = ⊎_elim (λ own. absurd (both_ways (is_in (row rows p).kind) not_in (rw own.0 at inside.0))) (λ above. above) (inside_up s k inside)

      go : (h : Home) → Stands rows p h → Stands rows i h
      go Outside stands = λ k. ((λ body. (stands k).0 (up true k body)), (λ scope. (stands k).1 (up false k scope)))
      go (Body k) stands = (inside_down true k stands.0, (λ m body. stands.1 m (up true m body)), (λ m scope. stands.2 m (up false m scope)))
      go (Scope k) stands = (inside_down false k stands.0, (λ m scope. stands.1 m (up false m scope)))

-- an operand of an in row that is in no scope stands in its body, or in its scope
stands_new : {rows : List Row} {i p : ℕ} (side : Bool) → Tree rows → Parent rows i p side → InRow rows p → ((k : ℕ) → InScope rows k p → ⊥) → Stands rows i (cond side (Body p) (Scope p))
stands_new {rows} {i} {p} true tree parent in_row flat = (
  inside_own tree parent in_row,
  (λ m body. ⊎_elim (λ own. omega arith) (λ above. omega (arith, inside_below true rows m tree above.0 p above.1)) (inside_up tree parent true m body)),
  (λ m scope. ⊎_elim (λ own. false≢true own.1) (flat m) (inside_up tree parent false m scope)),
)
stands_new false tree parent in_row flat = (
  inside_own tree parent in_row,
  (λ m scope. ⊎_elim (λ own. own.0) (λ above. absurd (flat m above)) (inside_up tree parent false m scope)),
)

-- a row stands where its home says if its parent does
stands_by : (rows : List Row) (i p : ℕ) (side : Bool) → Tree rows → Flat rows → Parent rows i p side → Stands rows p (home rows p) → Stands rows i (home rows i)
stands_by rows i p side tree flat parent stands = rw (home_by rows tree parent) (⊎_elim new same (cases_Bool (is_in kind)))
  where
    kind : Kind
    kind = (row rows p).kind

    same : is_in kind ≡ false → Stands rows i (given side kind p (home rows p))
    same not_in = rw (given_same side kind p (home rows p) not_in) (stands_same tree parent not_in (home rows p) stands)

    new : InRow rows p → Stands rows i (given side kind p (home rows p))
    new in_row =
        let out = flat p parent.within in_row in
        rw (given_new side kind p (home rows p) in_row (false_from_ne_true _ out)) (stands_new side tree parent in_row (no_scope rows p (home rows p) out stands))

given_in_scope : (side : Bool) (kind : Kind) (n : ℕ) (h : Home) → in_scope (given side kind n h) ≡ true → (in_scope h ≡ true) ⊎ ((is_in kind ≡ true) × (side ≡ false))
given_in_scope true kind n Outside scope = grind arith
given_in_scope true kind n (Body k) scope = grind arith
given_in_scope true kind n (Scope k) scope = inl refl
given_in_scope false kind n Outside scope = grind arith
given_in_scope false kind n (Body k) scope = grind arith
given_in_scope false kind n (Scope k) scope = inl refl

given_right : (side : Bool) (kind : Kind) (n : ℕ) (h : Home) → is_in kind ≡ true → false ≡ side → in_scope (given side kind n h) ≡ true
given_right side kind n h in_row right = grind arith

-- a row is in a scope where its home says so if that is true of its parent
scoped_by : (rows : List Row) (i p : ℕ) (side : Bool) → Tree rows → Parent rows i p side → Scoped rows p (home rows p) → Scoped rows i (home rows i)
scoped_by rows i p side tree parent scoped = rw (home_by rows tree parent) (there, back)
  where
    kind : Kind
    kind = (row rows p).kind

    there : in_scope (given side kind p (home rows p)) ≡ true → (k : ℕ) × InScope rows k i
    there scope =
        ⊎_elim
        (λ above. let found = scoped.0 above in (found.0, inside_down tree parent false found.0 found.1))
        (λ own. (p, subst (λ s. Inside s rows p i) own.1 (inside_own tree parent own.0)))
        (given_in_scope side kind p (home rows p) scope)

    back : (k : ℕ) → InScope rows k i → in_scope (given side kind p (home rows p)) ≡ true
    back k inside =
        ⊎_elim
        (λ own. given_right side kind p (home rows p) (rw own.0 at inside.0) own.1)
        (λ above. given_keeps_scope side kind p (home rows p) (scoped.1 k above))
        (inside_up tree parent false k inside)

-- a row that is no operand stands outside, and is inside nothing
alone : (rows : List Row) (i : ℕ) → ((j : ℕ) → Operand rows j i → ⊥) → home rows i ≡ Outside
unfolding home_from
alone rows i none =
    skip rows i (length rows) (omega arith) (λ j before. none j)
    ∙ ap (λ l. home_from (length rows) l i) (drop_all (length rows) rows (omega arith))

alone_empty : (rows : List Row) (i : ℕ) → ((j : ℕ) → Operand rows j i → ⊥) → (side : Bool) (k : ℕ) → Inside side rows k i → ⊥
alone_empty rows i none side k inside =
    ⊎_elim (λ is. none k (half_operand side (row rows k) i is)) (λ by. none by.0 by.2) (inside_by side rows k i inside)

-- What holds of a row that is no operand, and of a row if it holds of its parent, holds of every row of a tree: from the last
-- row down, by the number of rows that are left.
from_last : (rows : List Row) → Tree rows → (P : ℕ → Type 0) → ((i : ℕ) → ((j : ℕ) → Operand rows j i → ⊥) → P i) → ((i p : ℕ) (side : Bool) → Parent rows i p side → P p → P i) → (d i : ℕ) → i < length rows → length rows ≤ i + d → P i
from_last rows tree P last by zero i within left = absurd (omega arith)
from_last rows tree P last by (suc d) i within left =
    let no_more : length rows ≤ i + 1 → P i = λ end. last i (λ j operand. omega (arith, tree.below j i operand, operand_within rows j i operand)) in
    let more : i + 1 < length rows → P i = λ next.
    let (p, side, parent) = find rows i (tree.once i next) in
    let higher : i < p = tree.below p i (parent_operand tree parent) in
    by i p side parent (from_last rows tree P last by d p parent.within (omega arith)) in
    ⊎_elim more no_more (cases_lt (i + 1) (length rows))

pub stands : (rows : List Row) → Tree rows → Flat rows → (i : ℕ) → i < length rows → Stands rows i (home rows i)
stands rows tree flat i within =
    from_last rows tree (λ j. Stands rows j (home rows j))
    (λ j none. rw (alone rows j none) (λ k. (alone_empty rows j none true k, alone_empty rows j none false k)))
    (λ j p side parent. stands_by rows j p side tree flat parent)
    (length rows) i within (omega arith)

pub scoped : (rows : List Row) → Tree rows → (i : ℕ) → i < length rows → Scoped rows i (home rows i)
scoped rows tree i within =
    from_last rows tree (λ j. Scoped rows j (home rows j))
    (λ j none. rw (alone rows j none) ((λ scope. absurd (false≢true scope)), (λ k inside. absurd (alone_empty rows j none false k inside))))
    (λ j p side parent. scoped_by rows j p side tree parent)
    (length rows) i within (omega arith)
