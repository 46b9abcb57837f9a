-- The rows of a rule with their homes and numbers, from the back.
use Rattle.std.proofs.Common.{◌≡◌, ℕ, ◌+◌, Bor, List, length, get_or, min, Some, None, Option, sym, ap, ◌∙◌, ⊎_elim, arith}
use Rattle.std.proofs.lemmas.Bool.{cases_lt}
use Rattle.std.specs.Iterator.Adapters.{rev_source, enumerate_source, enumerate_count, zip_first, zip_second, rev_steps, enumerate_steps_back, zip_steps_back}
use Rattle.std.specs.List.{push}
use Rattle.std.specs.Slice.Iter.{iter_rest, iter_steps_back}
use Rattle.std.specs.declared.iter.Rev.{Rev}
use Rattle.rows.specs.Homes.{homes}
use Rattle.rows.specs.Rows.{blank}
use Rattle.rows.specs.declared.home.Home.{Home}
use Rattle.rows.specs.declared.home.Home.TheVariants.{Outside}
use Rattle.rows.specs.declared.row.Row.{Row}
use Rattle.rows.proofs.Backward.{Front, front_start, front_more, front_length, front_within, front_item}
use Rattle.rows.proofs.Places.{length_homes}
use Rattle.rows.proofs.Walks.{Turn, home_at, Item, Walk, Starts}

abbrev pub rows_left : Rev Walk → List Row
rows_left s = iter_rest (zip_first (enumerate_source (rev_source s)))

abbrev pub homes_left : Rev Walk → List Home
homes_left s = iter_rest (zip_second (enumerate_source (rev_source s)))

abbrev pub walks_back : Rev Walk → Option Item → Rev Walk → Type 0
walks_back = rev_steps (enumerate_steps_back (zip_steps_back iter_steps_back iter_steps_back (λ s. length (iter_rest s)) (λ s. length (iter_rest s))) (λ s. min (length (iter_rest (zip_first s))) (length (iter_rest (zip_second s)))))

-- what a walk from the back has left of the rows and their homes
pub record Back (rows : List Row) (hs : List Home) (s : Rev Walk) : Type 0 where
  pub of_rows : Front (rows_left s) rows
  pub of_homes : Front (homes_left s) hs
  pub same : length (rows_left s) ≡ length (homes_left s)
  pub from_zero : enumerate_count (rev_source s) ≡ 0

pub back_start : (rows : List Row) (hs : List Home) → hs ≡ homes rows → (s : Rev Walk) → Starts rows hs (rev_source s) → Back rows hs s
back_start rows hs known s starts = record {
  of_rows = front_start (rows_left s) rows starts.0;
  of_homes = front_start (homes_left s) hs starts.1;
  same = omega (arith, ap length starts.0, ap length starts.1, length_homes rows known);
  from_zero = starts.2;
}

module _ (rows : List Row) (hs : List Home) (known : hs ≡ homes rows) (s t : Rev Walk) (back : Back rows hs s) where
  module _ (number : ℕ) (r : Bor Row) (h : Bor Home) (steps : walks_back s (Some (number, (r, h))) t) where
    row_step : rows_left s ≡ push (rows_left t) r.now
    row_step = steps.1.0.0.3 (omega (arith, back.same))

    home_step : homes_left s ≡ push (homes_left t) h.now
    home_step = steps.1.0.1.3 (omega (arith, back.same))

    pub back_less : length (rows_left s) ≡ length (rows_left t) + 1
    back_less = front_length (rows_left s) rows (rows_left t) r.now back.of_rows row_step

    pub back_more : Back rows hs t
    back_more = record {
      of_rows = front_more (rows_left s) rows (rows_left t) r.now back.of_rows row_step;
      of_homes = front_more (homes_left s) hs (homes_left t) h.now back.of_homes home_step;
      same = omega (arith, back.same, back_less, front_length (homes_left s) hs (homes_left t) h.now back.of_homes home_step);
      from_zero = steps.0 ∙ back.from_zero;
    }

    pub back_turn : Turn rows (length (rows_left t)) number r.now h.now
    back_turn =
        let within = front_within (rows_left s) rows (rows_left t) r.now back.of_rows row_step in
        let same = back_more.same in
        record {
          within = within;
          number_is = omega (arith, steps.1.1, back.from_zero);
          row_is = front_item (rows_left s) rows (rows_left t) r.now back.of_rows row_step blank;
          home_is = front_item (homes_left s) hs (homes_left t) h.now back.of_homes home_step Outside ∙ ap (λ i. get_or hs i Outside) (sym same) ∙ home_at rows hs (length (rows_left t)) known within;
        }

  pub back_end : walks_back s None t → length (rows_left s) ≡ 0
  back_end steps =
      ⊎_elim
      (λ some. ⊎_elim (λ ended. (ended.3 (omega (arith, back.same))).0) (λ ended. back.same ∙ (ended.3 (omega (arith, back.same))).0) (steps.1.1 (omega (arith, back.same))))
      (λ none. omega arith)
      (cases_lt 0 (length (rows_left s)))
