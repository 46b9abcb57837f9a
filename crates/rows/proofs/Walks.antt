-- A walk over the rows of a rule with their homes and numbers, from the front.
use Rattle.std.proofs.Common.{◌≡◌, ℕ, ◌<◌, ◌≤◌, Bor, List, length, get_or, Some, None, Option, Iter, refl, ap, ◌∙◌, arith}
use Rattle.std.proofs.lemmas.List.{get_or_default}
use Rattle.std.proofs.lemmas.List.FromFn.{get_or-map-range_with_len, length-enumerate_from, get_or-enumerate_from}
use Rattle.std.proofs.iter.Yields.{fronts}
use Rattle.std.proofs.lemmas.Iterator.{YieldsList, YieldsList-from_slice, YieldsList-from_zip, zips}
use Rattle.std.proofs.lemmas.Iterator.Consumers.{YieldsList-from_enumerate, YieldsList-turn, YieldsList-end}
use Rattle.std.specs.Iterator.{Yields}
use Rattle.std.proofs.lemmas.Slice.Zip.{length-zip, get_or-zip}
use Rattle.std.specs.Iterator.Adapters.{enumerate_source, enumerate_count, zip_first, zip_second, enumerate_steps}
use Rattle.std.specs.List.{zip, enumerate_from}
use Rattle.std.specs.Slice.Iter.{iter_rest}
use Rattle.std.specs.declared.iter.Enumerate.{Enumerate}
use Rattle.std.specs.declared.iter.Zip.{Zip}
use Rattle.rows.specs.Homes.{home, homes}
use Rattle.rows.specs.Rows.{blank}
use Rattle.rows.specs.declared.home.Home.{Home}
use Rattle.rows.specs.declared.home.Home.TheVariants.{Outside}
use Rattle.rows.specs.declared.row.Row.{Row}
use Rattle.rows.proofs.Places.{length_homes}

-- row i, with its number and its home
pub record Turn (rows : List Row) (i number : ℕ) (r : Row) (h : Home) : Type 0 where
  pub within : i < length rows
  pub number_is : number ≡ i
  pub row_is : r ≡ get_or rows i blank
  pub home_is : h ≡ home rows i

pub home_at : (rows : List Row) (hs : List Home) (i : ℕ) → hs ≡ homes rows → i < length rows → get_or hs i Outside ≡ home rows i
unfolding homes
home_at rows hs i known within = ap (λ l. get_or l i Outside) known ∙ get_or-map-range_with_len (home rows) 0 (length rows) i i Outside within (omega arith)

abbrev pub Item : Type 0
Item = ℕ × (Bor Row × Bor Home)

abbrev pub Walk : Type 0
Walk = Enumerate (Zip (Iter Row) (Iter Home))

abbrev pub walks : Walk → Option Item → Walk → Type 0
walks = enumerate_steps (zips fronts fronts)

-- a walk that starts with all of them
abbrev pub Starts : List Row → List Home → Walk → Type 0
Starts rows hs s = (iter_rest (zip_first (enumerate_source s)) ≡ rows) × (iter_rest (zip_second (enumerate_source s)) ≡ hs) × (enumerate_count s ≡ 0)

-- the rows and homes as numbered pairs
module _ (rows : List Row) (hs : List Home) (known : hs ≡ homes rows) where
  abbrev numbered : List (ℕ × (Row × Home))
  numbered = enumerate_from 0 (zip rows hs)

  numbered_length : length numbered ≡ length rows
  numbered_length = omega (arith, length-enumerate_from 0 (zip rows hs), length-zip rows hs, length_homes rows known)

  turn_at : (i number : ℕ) (r : Row) (h : Home) → (i < length numbered) × ((number, (r, h)) ≡ get_or numbered i (number, (r, h))) → Turn rows i number r h
  turn_at i number r h at =
      let within : i < length rows = omega (arith, at.0, numbered_length) in
      let same = length_homes rows known in
      let here = at.1 ∙ get_or-enumerate_from 0 (zip rows hs) i (number, (r, h)) (omega (arith, length-zip rows hs)) in
      let pair = ap (λ (p : ℕ × (Row × Home)). p.1) here ∙ get_or-zip rows hs i (r, h) within (omega arith) in
      record {
        within = within;
        number_is = omega (arith, ap (λ (p : ℕ × (Row × Home)). p.0) here);
        row_is = ap (λ (p : Row × Home). p.0) pair ∙ get_or_default rows i r blank within;
        home_is = ap (λ (p : Row × Home). p.1) pair ∙ get_or_default hs i h Outside (omega arith) ∙ home_at rows hs i known within;
      }

  -- a walk from the front, which has yielded xs, at its next row and at its end
  module _ (s : Walk) (starts : Starts rows hs s) (xs : List Item) (t : Walk) (sofar : Yields walks s xs t) (u : Walk) where
    road : YieldsList {B = ℕ × (Row × Home)} walks (λ p. (p.0, (p.1.0.now, p.1.1.now))) s numbered
    road = YieldsList-from_enumerate (YieldsList-from_zip (YieldsList-from_slice rows starts.0) (YieldsList-from_slice hs starts.1)) starts.2

    pub front_turn : (number : ℕ) (r : Bor Row) (h : Bor Home) → walks t (Some (number, (r, h))) u → Turn rows (length xs) number r.now h.now
    front_turn number r h steps = turn_at (length xs) number r.now h.now (YieldsList-turn road xs t sofar _ u (number, (r, h)) refl steps)

    pub front_end : walks t None u → length rows ≤ length xs
    front_end steps = omega (arith, (YieldsList-end road xs t sofar _ u refl steps).1, numbered_length)
