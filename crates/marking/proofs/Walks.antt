-- The homes of a rule with their numbers, from the back.
use Rattle.std.proofs.Common.{◌≡◌, ℕ, ◌+◌, ◌<◌, Bor, List, length, Some, Option, Iter, ◌∙◌, arith}
use Rattle.std.specs.Iterator.Adapters.{rev_source, enumerate_source, enumerate_count, rev_steps, enumerate_steps_back}
use Rattle.std.specs.Slice.Iter.{iter_rest, iter_steps_back}
use Rattle.std.specs.declared.iter.Enumerate.{Enumerate}
use Rattle.std.specs.declared.iter.Rev.{Rev}
use Rattle.rows.specs.Homes.{home, homes}
use Rattle.rows.specs.declared.home.Home.{Home}
use Rattle.rows.specs.declared.home.Home.TheVariants.{Outside}
use Rattle.rows.specs.declared.row.Row.{Row}
use Rattle.rows.proofs.Backward.{Front, front_start, front_more, front_length, front_within, front_item}
use Rattle.rows.proofs.Places.{length_homes}
use Rattle.rows.proofs.Walks.{home_at}

abbrev pub HomeWalk : Type 0
HomeWalk = Rev (Enumerate (Iter Home))

abbrev pub homes_left : HomeWalk → List Home
homes_left s = iter_rest (enumerate_source (rev_source s))

abbrev pub walks_back : HomeWalk → Option (ℕ × Bor Home) → HomeWalk → Type 0
walks_back = rev_steps (enumerate_steps_back iter_steps_back (λ s. length (iter_rest s)))

-- what a walk from the back has left of the homes
pub record Back (hs : List Home) (s : HomeWalk) : Type 0 where
  pub of_homes : Front (homes_left s) hs
  pub from_zero : enumerate_count (rev_source s) ≡ 0

pub back_start : (hs : List Home) (s : HomeWalk) → (homes_left s ≡ hs) × (enumerate_count (rev_source s) ≡ 0) → Back hs s
back_start hs s starts = record { of_homes = front_start (homes_left s) hs starts.0; from_zero = starts.1 }

-- this is home i, with its number
pub record HomeTurn (rows : List Row) (i number : ℕ) (h : Home) : Type 0 where
  pub within : i < length rows
  pub number_is : number ≡ i
  pub home_is : h ≡ home rows i

module _ (rows : List Row) (hs : List Home) (known : hs ≡ homes rows) (s t : HomeWalk) (back : Back hs s) (number : ℕ) (h : Bor Home) (steps : walks_back s (Some (number, h)) t) where
  pub back_less : length (homes_left s) ≡ length (homes_left t) + 1
  back_less = front_length (homes_left s) hs (homes_left t) h.now back.of_homes steps.1.0

  pub back_more : Back hs t
  back_more = record { of_homes = front_more (homes_left s) hs (homes_left t) h.now back.of_homes steps.1.0; from_zero = steps.0 ∙ back.from_zero }

  pub back_turn : HomeTurn rows (length (homes_left t)) number h.now
  back_turn =
      let within : length (homes_left t) < length rows = omega (arith, front_within (homes_left s) hs (homes_left t) h.now back.of_homes steps.1.0, length_homes rows known) in
      record {
        within = within;
        number_is = omega (arith, steps.1.1, back.from_zero);
        home_is = front_item (homes_left s) hs (homes_left t) h.now back.of_homes steps.1.0 Outside ∙ home_at rows hs (length (homes_left t)) known within;
      }
