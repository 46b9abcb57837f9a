-- The turns of the three loops, and the room that they have.
use Rattle.std.proofs.Common.{◌≡◌, ℕ, zero, suc, ◌+◌, ◌≤◌, List, [], ◌∷◌, length, get_or, drop, sym, refl, ap, ◌∙◌, arith, add-one}
use Rattle.std.proofs.lemmas.List.{at_drop_more, at_drop_all}
use Rattle.rows.specs.Homes.{home}
use Rattle.rows.specs.Rows.{blank}
use Rattle.rows.specs.declared.home.Home.{Home}
use Rattle.rows.specs.declared.row.Row.{Row}
use Rattle.translation.specs.Translation.{Draft, scope_step, gate_step, write_step, rising, falling, empty_draft, after_scopes, after_gates, after_rows, translated}
use Rattle.translation.proofs.Count.{translated_count}
use Rattle.rows.proofs.Walks.{Turn}
use Rattle.translator.proofs.Growth.{count, Grown, gate_grows, write_grows}

-- a step at a row with its home
abbrev pub Step : Type 0
Step = Home → ℕ → Row → Draft → Draft

-- what is left to do of a draft, from row i on or below row n, gives the draft at the end
abbrev pub RisingTo : Step → List Row → Draft → ℕ → Draft → Type 0
RisingTo step rows end i d = rising (λ j. step (home rows j) j) i (drop i rows) d ≡ end

abbrev pub FallingTo : Step → List Row → Draft → ℕ → Draft → Type 0
FallingTo step rows end n d = falling (λ j. step (home rows j) j) rows n d ≡ end

module _ (step : Step) (grows : (h : Home) (i : ℕ) (r : Row) (d : Draft) → Grown d (step h i r d)) (rows : List Row) where
  abbrev at : ℕ → Row → Draft → Draft
  at i = step (home rows i) i

  rising_grown : (rest : List Row) (i : ℕ) (d : Draft) → Grown d (rising at i rest d)
  unfolding rising
  rising_grown [] i d = omega arith
  rising_grown (r ∷ rest) i d = omega (arith, grows (home rows i) i r d, rising_grown rest (i + 1) (at i r d))

  falling_grown : (n : ℕ) (d : Draft) → Grown d (falling at rows n d)
  unfolding falling
  falling_grown zero d = omega arith
  falling_grown (suc n) d = omega (arith, grows (home rows n) n (get_or rows n blank) d, falling_grown n (at n (get_or rows n blank) d))

  module _ (end : Draft) (i : ℕ) (d : Draft) {number : ℕ} {r : Row} {h : Home} (turn : Turn rows i number r h) where
    taken : step h number r d ≡ at i (get_or rows i blank) d
    taken = λ j. step (turn.home_is j) (turn.number_is j) (turn.row_is j) d

    pub rising_more : {e : Draft} → RisingTo step rows end i d → e ≡ step h number r d → RisingTo step rows end (i + 1) e
    unfolding rising
    rising_more left is =
        ap (rising at (i + 1) (drop (i + 1) rows)) (is ∙ taken) ∙ sym (at_drop_more (λ l. rising at i l d) rows i blank turn.within) ∙ left

    pub rising_room : RisingTo step rows end i d → count (step h number r d) ≤ count end
    rising_room left =
        omega (arith, rising_grown (drop (i + 1) rows) (i + 1) (step h number r d), ap count (rising_more left refl))

    pub falling_more : {e : Draft} → FallingTo step rows end (i + 1) d → e ≡ step h number r d → FallingTo step rows end i e
    unfolding falling
    falling_more left is = ap (falling at rows i) (is ∙ taken) ∙ ap (λ k. falling at rows k d) (sym (add-one i)) ∙ left

    pub falling_room : FallingTo step rows end (i + 1) d → count (step h number r d) ≤ count end
    falling_room left = omega (arith, falling_grown i (step h number r d), ap count (falling_more left refl))

  pub rising_end : (end : Draft) (i : ℕ) (d : Draft) → length rows ≤ i → RisingTo step rows end i d → d ≡ end
  unfolding rising
  rising_end end i d past left = sym (at_drop_all (λ l. rising at i l d) rows i past) ∙ left

  pub falling_end : (end : Draft) (n : ℕ) (d : Draft) → n ≤ 0 → FallingTo step rows end n d → d ≡ end
  unfolding falling
  falling_end end n d none left = let back : n ≡ 0 = omega arith in sym (ap (λ m. falling at rows m d) back) ∙ left

module _ (rows : List Row) where
  -- each loop starts where the one before it ends
  pub scopes_start : {d : Draft} → d ≡ empty_draft (length rows) → RisingTo scope_step rows (after_scopes rows) 0 d
  unfolding after_scopes
  scopes_start is = ap (rising (λ i. scope_step (home rows i) i) 0 rows) is

  pub gates_start : {d : Draft} → d ≡ after_scopes rows → FallingTo gate_step rows (after_gates rows) (length rows) d
  unfolding after_gates
  gates_start is = ap (falling (λ i. gate_step (home rows i) i) rows (length rows)) is

  pub rows_start : {d : Draft} → d ≡ after_gates rows → RisingTo write_step rows (after_rows rows) 0 d
  unfolding after_rows
  rows_start is = ap (rising (λ i. write_step (home rows i) i) 0 rows) is

  gates_grown : Grown (after_scopes rows) (after_gates rows)
  unfolding after_gates
  gates_grown = falling_grown gate_step gate_grows rows (length rows) (after_scopes rows)

  rows_grown : Grown (after_gates rows) (after_rows rows)
  unfolding after_rows
  rows_grown = rising_grown write_step write_grows rows rows 0 (after_gates rows)

  module _ (few : length rows ≤ 1024) where
    pub rows_few : count (after_rows rows) ≤ 5120
    unfolding translated
    rows_few = omega (arith, translated_count rows)

    pub gates_few : count (after_gates rows) ≤ 5120
    gates_few = omega (arith, rows_few, rows_grown)

    pub scopes_few : count (after_scopes rows) ≤ 5120
    scopes_few = omega (arith, gates_few, gates_grown)

-- what is written in the end
pub rows_written : (rows : List Row) (d : Draft) → d ≡ after_rows rows → d.written ≡ translated rows
unfolding translated
rows_written rows d done = ap (λ x. x.written) done
