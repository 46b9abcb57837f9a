-- The states that are left for the rows of a rule.
use Rattle.std.proofs.Common.{◌≡◌, ℕ, zero, suc, ◌+◌, ◌<◌, ◌≤◌, Bool, true, false, cond, ◌&&◌, ◌||◌, List, [], ◌∷◌, ◌++◌, length, get_or, sym, refl, ap, ◌∙◌, subst, arith}
use Rattle.std.proofs.lemmas.List.Elements.{filter-append}
use Rattle.rows.specs.Homes.{home}
use Rattle.rows.specs.Reach.{InRow}
use Rattle.rows.specs.declared.home.Home.{Home}
use Rattle.rows.specs.declared.home.Home.TheVariants.{Outside, Body, Scope}
use Rattle.rows.specs.declared.row.Row.{Row}
use Rattle.rows.proofs.Operands.{body_of}
use Rattle.sessions.specs.declared.state.State.{State}
use Rattle.meaning.specs.Formulas.{Formula}
use Rattle.meaning.specs.Meaning.{in_scope, thinned}
use Rattle.scopes.specs.Answered.{scope_of}
use Rattle.scopes.specs.Ruled.{Ruled}
use Rattle.marking.specs.Bodies.{body_left, at_home, Held}
use Rattle.marking.specs.Marks.{some}
use Rattle.marking.specs.Straight.{left_in, left_up, left_for}

-- what is left of nothing
in_none : (above : ℕ → List State → List State) (rows : List Row) (h : Home) → ((k : ℕ) → above k [] ≡ []) → left_in above rows h [] ≡ []
in_none above rows Outside none = refl
in_none above rows (Body k) none = ap (thinned (scope_of rows k)) (none k)
in_none above rows (Scope k) none = refl

up_none : (c : ℕ) (rows : List Row) (i : ℕ) → left_up c rows i [] ≡ []
unfolding left_up
up_none zero rows i = refl
up_none (suc c) rows i = in_none (left_up c rows) rows (home rows i) (up_none c rows)

pub left_none : (rows : List Row) (i : ℕ) → left_for rows i [] ≡ []
unfolding left_for
left_none rows i = up_none (length rows) rows i

-- and of one session followed by another
in_append : (above : ℕ → List State → List State) (rows : List Row) (h : Home) (u v : List State) → ((k : ℕ) → above k (u ++ v) ≡ above k u ++ above k v) → left_in above rows h (u ++ v) ≡ left_in above rows h u ++ left_in above rows h v
in_append above rows Outside u v both = refl
in_append above rows (Body k) u v both = ap (thinned (scope_of rows k)) (both k) ∙ filter-append (in_scope (scope_of rows k)) (above k u) (above k v)
in_append above rows (Scope k) u v both = refl

up_append : (c : ℕ) (rows : List Row) (i : ℕ) (u v : List State) → left_up c rows i (u ++ v) ≡ left_up c rows i u ++ left_up c rows i v
unfolding left_up
up_append zero rows i u v = refl
up_append (suc c) rows i u v = in_append (left_up c rows) rows (home rows i) u v (λ k. up_append c rows k u v)

pub left_append : (rows : List Row) (i : ℕ) (u v : List State) → left_for rows i (u ++ v) ≡ left_for rows i u ++ left_for rows i v
unfolding left_for
left_append rows i u v = up_append (length rows) rows i u v

-- of one state, it or nothing
abbrev pub Single : State → List State → Type 0
Single s xs = xs ≡ cond (some xs) (s ∷ []) []

thinned_one : (scope : Formula) (s : State) (xs : List State) → Single s xs → Single s (thinned scope xs) × (some (thinned scope xs) ≡ (some xs && in_scope scope s))
thinned_one scope s [] is = (refl, refl)
thinned_one scope s (t ∷ xs) is =
    subst (λ l. Single s (thinned scope l) × (some (thinned scope l) ≡ (some l && in_scope scope s))) (sym is) (by (in_scope scope s))
  where
    by : (b : Bool) → Single s (cond b (s ∷ []) []) × (some (cond b (s ∷ []) []) ≡ b)
    by true = (refl, refl)
    by false = (refl, refl)

in_one : (above : ℕ → List State → List State) (rows : List Row) (h : Home) (s : State) → ((k : ℕ) → Single s (above k (s ∷ []))) → Single s (left_in above rows h (s ∷ []))
in_one above rows Outside s one = refl
in_one above rows (Body k) s one = (thinned_one (scope_of rows k) s (above k (s ∷ [])) (one k)).0
in_one above rows (Scope k) s one = refl

up_one : (c : ℕ) (rows : List Row) (i : ℕ) (s : State) → Single s (left_up c rows i (s ∷ []))
unfolding left_up
up_one zero rows i s = refl
up_one (suc c) rows i s = in_one (left_up c rows) rows (home rows i) s (λ k. up_one c rows k s)

left_one : (rows : List Row) (i : ℕ) (s : State) → Single s (left_for rows i (s ∷ []))
unfolding left_for
left_one rows i s = up_one (length rows) rows i s

-- a state that is left by itself for a row stays in front of the others, and one that is not goes
pub left_open : (rows : List Row) (i : ℕ) (s : State) (w : List State) → some (left_for rows i (s ∷ [])) ≡ true → left_for rows i (s ∷ w) ≡ s ∷ left_for rows i w
left_open rows i s w passes =
    left_append rows i (s ∷ []) w ∙ ap (λ l. l ++ left_for rows i w) (left_one rows i s ∙ ap (λ b. cond b (s ∷ []) []) passes)

pub left_shut : (rows : List Row) (i : ℕ) (s : State) (w : List State) → some (left_for rows i (s ∷ [])) ≡ false → left_for rows i (s ∷ w) ≡ left_for rows i w
left_shut rows i s w shut =
    left_append rows i (s ∷ []) w ∙ ap (λ l. l ++ left_for rows i w) (left_one rows i s ∙ ap (λ b. cond b (s ∷ []) []) shut)

-- a body is open for a state if its in row is and the state is in scope
pub body_open : (rows : List Row) (k : ℕ) (s : State) → some (body_left rows k (s ∷ [])) ≡ (some (left_for rows k (s ∷ [])) && in_scope (scope_of rows k) s)
body_open rows k s = (thinned_one (scope_of rows k) s (left_for rows k (s ∷ [])) (left_one rows k s)).1

some_append : (u v : List State) → some (u ++ v) ≡ (some u || some v)
some_append [] v = refl
some_append (s ∷ u) v = refl

pub body_more : (rows : List Row) (k : ℕ) (s : State) (w : List State) → some (body_left rows k (s ∷ w)) ≡ (some (body_left rows k (s ∷ [])) || some (body_left rows k w))
body_more rows k s w =
    let scope = scope_of rows k in
    ap (λ l. some (thinned scope l)) (left_append rows k (s ∷ []) w)
    ∙ ap some (filter-append (in_scope scope) (left_for rows k (s ∷ [])) (left_for rows k w))
    ∙ some_append (thinned scope (left_for rows k (s ∷ []))) (thinned scope (left_for rows k w))

in_same : (above other : ℕ → List State → List State) (rows : List Row) (h : Home) (w : List State) → ((k : ℕ) → h ≡ Body k → above k w ≡ other k w) → left_in above rows h w ≡ left_in other rows h w
in_same above other rows Outside w same = refl
in_same above other rows (Body k) w same = ap (thinned (scope_of rows k)) (same k refl)
in_same above other rows (Scope k) w same = refl

module _ {rows : List Row} (ruled : Ruled rows) where
  -- a row has no more in rows above it than rows
  up_enough : (c i : ℕ) (w : List State) → i < length rows → length rows ≤ i + c → left_up c rows i w ≡ left_up (suc c) rows i w
  unfolding left_up
  up_enough zero i w within room = absurd (omega arith)
  up_enough (suc c) i w within room = in_same (left_up c rows) (left_up (suc c) rows) rows (home rows i) w (λ k is.
      let above = body_of rows ruled.tree ruled.flat i k within is in
      up_enough c k w above.1 (omega (arith, above.0)))

  -- what is left for a row, by its home
  pub left_by : (i : ℕ) (w : List State) → i < length rows → left_for rows i w ≡ left_in (left_for rows) rows (home rows i) w
  unfolding left_for left_up
  left_by i w within = up_enough (length rows) i w within (omega arith)

  -- whether a state is left for a row, by what is known of the bodies above it
  pub home_is : (i : ℕ) (w : List State) (bodies : List Bool) (elsewhere : Bool) → i < length rows → ((k : ℕ) → i < k → InRow rows k → get_or bodies k false ≡ some (body_left rows k w)) → elsewhere ≡ some w → at_home (home rows i) bodies elsewhere ≡ some (left_for rows i w)
  home_is i w bodies elsewhere within known is = go (home rows i) refl ∙ ap some (sym (left_by i w within))
    where
      go : (h : Home) → home rows i ≡ h → at_home h bodies elsewhere ≡ some (left_in (left_for rows) rows h w)
      go Outside same = is
      go (Body k) same = let above = body_of rows ruled.tree ruled.flat i k within same in known k above.0 above.2
      go (Scope k) same = is

  -- the in row of a body is one of the rows
  pub home_held : (i long : ℕ) → i < length rows → length rows ≤ long → Held (home rows i) long
  home_held i long within room = go (home rows i) refl
    where
      go : (h : Home) → home rows i ≡ h → Held h long
      go Outside same = tt
      go (Body k) same = let above = body_of rows ruled.tree ruled.flat i k within same in omega (arith, above.1)
      go (Scope k) same = tt
