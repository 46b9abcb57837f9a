-- Where the operands of a row stand, in a rule whose rows form a tree.
use Rattle.std.proofs.Common.{◌≡◌, ℕ, ◌+◌, ◌<◌, ◌≤◌, Bool, true, List, length, get_or, sym, ap, ◌∙◌, subst, arith}
use Rattle.std.proofs.lemmas.List.{drop_all}
use Rattle.rows.specs.Rows.{blank}
use Rattle.rows.specs.Homes.{home_from, home}
use Rattle.rows.specs.Reach.{Operand, Reached, here, down, InRow, Tree, Flat, Stands}
use Rattle.rows.specs.declared.row.Row.{Row}
use Rattle.rows.specs.declared.home.Home.TheVariants.{Outside, Body}
use Rattle.rows.proofs.Parents.{operand_within, in_within, one_side, find, given, skip, home_by}
use Rattle.rows.proofs.Standing.{stands}
use Rattle.rows.proofs.Halves.{half_is, half_operand, named_half, in_use}

module _ (rows : List Row) (tree : Tree rows) where
  -- every row but the last has a parent above it
  pub parent_of : (i : ℕ) → i + 1 < length rows → (p : ℕ) × (side : Bool) × (i < p) × (p < length rows) × (half_is side (get_or rows p blank) i ≡ true)
  parent_of i next =
      let (p, side, parent) = find rows i (tree.once i next) in
      (p, side, tree.below p i (half_operand side (get_or rows p blank) i parent.named), parent.within, parent.named)

  -- the operand in a half of row j stands where row j puts it
  pub operand_home : (side : Bool) (j i : ℕ) → half_is side (get_or rows j blank) i ≡ true → home rows i ≡ given side (get_or rows j blank).kind j (home rows j)
  operand_home side j i named =
      let operand : Operand rows j i = half_operand side (get_or rows j blank) i named in
      let below = tree.below j i operand in
      let within = operand_within rows j i operand in
      let (p, s, parent) = find rows i (tree.once i (omega arith)) in
      let same : j ≡ p = parent.only j operand in
      let side_same : s ≡ side = one_side s side (get_or rows p blank) i parent.once parent.named (subst (λ q. half_is side (get_or rows q blank) i ≡ true) same named) in
      home_by rows tree parent ∙ ap (λ t. given t (get_or rows p blank).kind p (home rows p)) side_same ∙ ap (λ q. given side (get_or rows q blank).kind q (home rows q)) (sym same)

  -- the last row stands outside
  pub last_outside : (i : ℕ) → length rows ≡ i + 1 → home rows i ≡ Outside
  unfolding home_from
  last_outside i last =
      skip rows i (length rows) (omega arith) (λ j before operand. omega (arith, tree.below j i operand))
      ∙ ap (λ l. home_from (length rows) l i) (drop_all (length rows) rows (omega arith))

  -- what is reached from a row is not above it
  pub reached_low : (k i : ℕ) → Reached rows k i → i ≤ k
  reached_low k _ here = omega arith
  reached_low k _ (down j i reached operand) = omega (arith, reached_low k j reached, tree.below j i operand)

  -- a body is the body of an in row above
  pub body_of : Flat rows → (i k : ℕ) → i < length rows → home rows i ≡ Body k → (i < k) × (k < length rows) × InRow rows k
  body_of flat i k within is =
      let inside = (subst (Stands rows i) is (stands rows tree flat i within)).0 in
      let r = get_or rows k blank in
      let low = reached_low r.left i inside.1 in
      let under = tree.below k r.left (half_operand true r r.left (named_half true r (in_use true r.kind inside.0))) in
      (omega arith, in_within rows k inside.0, inside.0)
