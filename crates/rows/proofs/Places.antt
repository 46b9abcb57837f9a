-- One step of the walk from the last row down that finds every home.
use Rattle.std.proofs.Common.{◌≡◌, ℕ, ◌+◌, ◌<◌, Bool, true, false, cond, eqb, List, length, get_or, drop, set, replicate, sym, refl, ap, ◌∙◌, subst, arith, length-set, eqb-true}
use borrow.Author.Tests.{eqb-false}
use Rattle.std.proofs.lemmas.List.{get_or-set_same, get_or-set_other, get_or-replicate, drop_more, drop_all}
use Rattle.std.proofs.lemmas.List.FromFn.{fill_by_all, length-map-range_with_len}
use Rattle.rows.specs.Kinds.{names_row, left_use, right_use}
use Rattle.rows.specs.Rows.{left_is, right_is}
use Rattle.rows.specs.Homes.{left_home, right_home, home_from, home, homes, placed, handed}
use Rattle.rows.specs.declared.kind.HalfUse.{HalfUse}
use Rattle.rows.specs.declared.kind.HalfUse.TheVariants.{Zero, FlagNumber, CodeNumber, Operand}
use Rattle.rows.specs.declared.row.Row.{Row}
use Rattle.rows.specs.declared.home.Home.{Home}
use Rattle.rows.specs.declared.home.Home.TheVariants.{Outside}

set_at : (hs : List Home) (half j : ℕ) (h : Home) → j < length hs → get_or (set hs half h) j Outside ≡ cond (eqb half j) h (get_or hs j Outside)
set_at hs half j h within = go (eqb half j) refl
  where
    go : (b : Bool) → eqb half j ≡ b → get_or (set hs half h) j Outside ≡ cond b h (get_or hs j Outside)
    go true e = let same : half ≡ j = eqb-true half j e in rw same (get_or-set_same hs j h Outside within)
    go false e = get_or-set_other hs half j h Outside (λ same. eqb-false half j e (sym same))

-- what stands at place j after a half has placed its operand
placed_at : (of : HalfUse) (half j : ℕ) (h : Home) (hs : List Home) → j < length hs → get_or (placed of half h hs) j Outside ≡ cond (names_row of half j) h (get_or hs j Outside)
placed_at Zero half j h hs within = refl
placed_at FlagNumber half j h hs within = refl
placed_at CodeNumber half j h hs within = refl
placed_at Operand half j h hs within = set_at hs half j h within

placed_length : (of : HalfUse) (half : ℕ) (h : Home) (hs : List Home) → length (placed of half h hs) ≡ length hs
placed_length Zero half h hs = refl
placed_length FlagNumber half h hs = refl
placed_length CodeNumber half h hs = refl
placed_length Operand half h hs = length-set hs half h

handed_at : (r : Row) (n j : ℕ) (h : Home) (hs : List Home) → j < length hs → get_or (handed r n h hs) j Outside ≡ cond (left_is r j) (left_home r.kind n h) (cond (right_is r j) (right_home r.kind n h) (get_or hs j Outside))
handed_at r n j h hs within =
    let of = right_use r.kind in
    let back = placed of r.right (right_home r.kind n h) hs in
    placed_at (left_use r.kind) r.left j (left_home r.kind n h) back (subst (λ m. j < m) (sym (placed_length of r.right (right_home r.kind n h) hs)) within)
    ∙ ap (cond (left_is r j) (left_home r.kind n h)) (placed_at of r.right j (right_home r.kind n h) hs within)

-- hs has the homes of all rows by the rows from n on
abbrev pub Known : List Row → ℕ → List Home → Type 0
Known rows n hs = (j : ℕ) → j < length rows → get_or hs j Outside ≡ home_from n (drop n rows) j

pub known_none : (rows : List Row) → Known rows (length rows) (replicate (length rows) Outside)
unfolding home_from
known_none rows j within =
    get_or-replicate (length rows) j Outside Outside within
    ∙ sym (ap (λ l. home_from (length rows) l j) (drop_all (length rows) rows (omega arith)))

pub known_more : (rows : List Row) (hs : List Home) (k : ℕ) (d : Row) → k < length rows → length hs ≡ length rows → Known rows (k + 1) hs → Known rows k (handed (get_or rows k d) k (get_or hs k Outside) hs)
unfolding home_from
known_more rows hs k d k_within long known j within =
    let r = get_or rows k d in
    let at : Home → Home → Home = λ own other. cond (left_is r j) (left_home r.kind k own) (cond (right_is r j) (right_home r.kind k own) other) in
    handed_at r k j (get_or hs k Outside) hs (subst (λ m. j < m) (sym long) within)
    ∙ (λ i. at (known k k_within i) (known j within i))
    ∙ sym (ap (λ l. home_from k l j) (drop_more rows k d k_within))

pub known_all : (rows : List Row) (hs : List Home) (n : ℕ) → n ≡ 0 → length hs ≡ length rows → Known rows n hs → hs ≡ homes rows
unfolding homes home
known_all rows hs n none long known =
    fill_by_all (home rows) hs (length rows) Outside long (subst (λ m. Known rows m hs) none known)

pub length_homes : (rows : List Row) {hs : List Home} → hs ≡ homes rows → length hs ≡ length rows
unfolding homes
length_homes rows e = ap length e ∙ length-map-range_with_len (home rows) 0 (length rows)
