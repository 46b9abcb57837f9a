-- How a strip fills with marks.
use Rattle.std.proofs.Common.{◌≡◌, ℕ, ◌+◌, ◌-◌, ◌*◌, ◌<◌, ◌≤◌, List, [], ◌++◌, length, get_or, drop, set, None, sym, ap, ◌∙◌, subst, ⊎_elim, arith, below_more}
use Rattle.std.proofs.lemmas.List.{length-map, length-drop, length-append, drop_all, get_or-set_same, get_or-set_other, get_or-map, get_or-drop, get_or_append_left, get_or-append_right, ext_get_or}
use Rattle.std.proofs.lemmas.Bool.{cases_lt, cond-false, le-ltb}
use Rattle.std.proofs.lemmas.Bool.Decides.{nat_tests}
use Rattle.rows.specs.declared.row.Row.{Row}
use Rattle.scales.specs.Lattice.{Lattice}
use Rattle.sessions.specs.declared.state.State.{State}
use Rattle.meaning.specs.Formulas.{formulas, formula_of, top}
use Rattle.meaning.specs.Meaning.{mark, row_mark}
use Rattle.marking.specs.Marks.{Filled, MarksOn}
use Rattle.marking.specs.Strips.{row_marks, strip_fault, after_marking}
use Rattle.meaning.proofs.Formulas.{length_built}

module _ {M : Type 0} (L : Lattice M) (n : ℕ) (meant : ℕ → List State → M) where
  -- one more row has its mark
  pub marks_more : (w : List State) (i : ℕ) (marks : List M) (here : M) → i < length marks → here ≡ meant i w → MarksOn L meant w i marks → MarksOn L meant w (i + 1) (set marks i here)
  marks_more w i marks here within is on =
      below_more _ i (λ k h. get_or-set_other marks i k here L.top (omega arith) ∙ on k h) (get_or-set_same marks i here L.top within ∙ is)

  -- before the last state is marked, where all marks are those on the empty session
  pub at_end : (states : List State) (marks after : List M) → MarksOn L meant [] n marks → after ≡ marks → (count : ℕ) → count ≡ length states → MarksOn L meant (drop count states) n marks × MarksOn L meant (drop (count + 1) states) n after
  at_end states marks after started same count is =
      let none : drop count states ≡ [] = drop_all count states (omega arith) in
      let past : drop (count + 1) states ≡ [] = drop_all (count + 1) states (omega arith) in (
        λ k h. started k h ∙ ap (meant k) (sym none),
        λ k h. ap (λ l. get_or l k L.top) same ∙ started k h ∙ ap (meant k) (sym past),
      )

  -- at a position that is not the first, the marks are those after the position before it
  pub at_turn : (states : List State) (position : ℕ) → 0 < position → (marks : List M) → MarksOn L meant (drop position states) n marks → MarksOn L meant (drop (position - 1 + 1) states) n marks
  at_turn states position later marks here =
      let back : position ≡ position - 1 + 1 = omega arith in
      subst (λ p. MarksOn L meant (drop p states) n marks) back here

  -- after the first state is marked, where the strip was cut in two and now has the marks, the stored ones and what it had further on
  module _ (states : List State) (position : ℕ) (first : position ≤ 0) (marks after : List M) (here : MarksOn L meant (drop position states) n marks) (later : MarksOn L meant (drop (position + 1) states) n after) where
    zero_is : position ≡ 0
    zero_is = omega arith

    pub at_start : (old front rest : List M) → old ≡ front ++ rest → length front ≡ n → length marks ≡ n → length after ≡ n → 2 * n ≤ length old → Filled L n meant states (drop 1 states) n old (marks ++ (after ++ drop n rest))
    at_start old front rest cut front_long marks_long after_long room =
        let tail = after ++ drop n rest in
        let old_long = ap length cut ∙ length-append front rest in
        let tail_long = length-append after (drop n rest) in
        let rest_long = length-drop n rest in
        record {
          long = length-append marks tail ∙ omega arith;
          first = λ k h. get_or_append_left marks tail L.top k (omega arith) ∙ here k h ∙ ap (λ p. meant k (drop p states)) zero_is;
          second = λ k h.
              let same : n + k - n ≡ k = omega arith in
              get_or-append_right marks tail n (n + k) L.top marks_long (omega arith)
              ∙ ap (λ m. get_or tail m L.top) same
              ∙ get_or_append_left after (drop n rest) L.top k (omega arith)
              ∙ later k h
              ∙ ap (λ p. meant k (drop (p + 1) states)) zero_is;
          ahead = λ k low high. absurd (omega arith);
          rest = λ k low.
              let same : n + (k - n - n) ≡ k - n = omega arith in
              get_or-append_right marks tail n k L.top marks_long (omega arith)
              ∙ get_or-append_right after (drop n rest) n (k - n) L.top after_long (omega arith)
              ∙ get_or-drop n rest (k - n - n) L.top
              ∙ ap (λ m. get_or rest m L.top) same
              ∙ sym (ap (λ l. get_or l k L.top) cut ∙ get_or-append_right front rest n k L.top front_long (omega arith));
        }

    -- the last row's mark
    pub answer_is : (answer : M) → 0 < n → length marks ≡ n → answer ≡ get_or marks (length marks - 1) L.top → answer ≡ meant (n - 1) states
    answer_is answer some_rows long is =
        is
        ∙ ap (λ m. get_or marks (m - 1) L.top) long
        ∙ here (n - 1) (omega arith)
        ∙ ap (λ p. meant (n - 1) (drop p states)) zero_is

  -- what a strip holds that has all marks, as lists of them
  pub filled_all : (w later : List State) (old now front second : List M) → 2 * n ≤ length old → length front ≡ n → length second ≡ n → ((k : ℕ) → k < n → get_or front k L.top ≡ meant k w) → ((k : ℕ) → k < n → get_or second k L.top ≡ meant k later) → Filled L n meant w later n old now → now ≡ front ++ (second ++ drop (2 * n) old)
  filled_all w later old now front second room front_long second_long front_is second_is filled =
      let rest = drop (2 * n) old in
      let rest_long = length-drop (2 * n) old in
      let now_long = filled.long in
      let back_long = length-append second rest in
      ext_get_or L.top now (front ++ (second ++ rest)) (now_long ∙ sym (length-append front (second ++ rest) ∙ omega arith)) (λ k h.
      ⊎_elim
      (λ low. filled.first k low ∙ sym (get_or_append_left front (second ++ rest) L.top k (omega arith) ∙ front_is k low))
      (λ high. ⊎_elim
      (λ low.
      let same : n + (k - n) ≡ k = omega arith in
      ap (λ m. get_or now m L.top) (sym same)
      ∙ filled.second (k - n) (omega arith)
      ∙ sym (get_or-append_right front (second ++ rest) n k L.top front_long high ∙ get_or_append_left second rest L.top (k - n) (omega arith) ∙ second_is (k - n) (omega arith)))
      (λ past.
      let same : 2 * n + (k - n - n) ≡ k = omega arith in
      filled.rest k past
      ∙ sym (get_or-append_right front (second ++ rest) n k L.top front_long high ∙ get_or-append_right second rest n (k - n) L.top second_long (omega arith) ∙ get_or-drop (2 * n) old (k - n - n) L.top ∙ ap (λ m. get_or old m L.top) same))
      (cases_lt k (2 * n)))
      (cases_lt k n))

-- one more row, of which the mark is stored or stays, while the further rows' marks are as they were
module _ {M : Type 0} (L : Lattice M) (meant : ℕ → List State → M) (w : List State) (i : ℕ) where
  abbrev pub Stepped : ℕ → List M → List M → Type 0
  Stepped n old now = record { here : MarksOn L meant w n now; ahead : (k : ℕ) → n ≤ k → get_or now k L.top ≡ get_or old k L.top }

  pub step_done : (number : ℕ) (old now : List M) (mark : M) {n : ℕ} → number ≡ i → i < length now → n ≡ i + 1 → mark ≡ meant i w → MarksOn L meant w i now → ((k : ℕ) → i ≤ k → get_or now k L.top ≡ get_or old k L.top) → Stepped n old (set now number mark)
  step_done number old now mark number_is within next is here ahead =
      let more = marks_more L i meant w i now mark within is here in
      let at : set now i mark ≡ set now number mark = ap (λ m. set now m mark) (sym number_is) in
      record {
        here = λ k h. ap (λ l. get_or l k L.top) (sym at) ∙ more k (omega arith);
        ahead = λ k h. ap (λ l. get_or l k L.top) (sym at) ∙ get_or-set_other now i k mark L.top (omega arith) ∙ ahead k (omega arith);
      }

  pub step_left : (old now : List M) {n : ℕ} → n ≡ i + 1 → get_or now i L.top ≡ meant i w → MarksOn L meant w i now → ((k : ℕ) → i ≤ k → get_or now k L.top ≡ get_or old k L.top) → Stepped n old now
  step_left old now next is here ahead =
      let more = below_more _ i here is in
      record { here = λ k h. more k (omega arith); ahead = λ k h. ahead k (omega arith) }

-- a strip that is not refused is long enough
pub long_enough : (rows marks : ℕ) → strip_fault rows marks ≡ None → 2 * rows ≤ marks
long_enough rows marks fine = grind (arith, nat_tests)

module _ {M : Type 0} (L : Lattice M) (rows : List Row) where
  marks_long : (w : List State) → length (row_marks L rows w) ≡ length rows
  unfolding row_marks formulas
  marks_long w = length-map (formulas rows) (λ f. mark L f w) ∙ length_built formula_of [] rows ∙ omega arith

  marks_at : (w : List State) (k : ℕ) → k < length rows → get_or (row_marks L rows w) k L.top ≡ row_mark L rows k w
  unfolding row_marks formulas
  marks_at w k h =
      let long = length_built formula_of [] rows in
      get_or-map (λ f. mark L f w) (formulas rows) k top L.top (omega arith)

  pub strip_is : (w : List State) (old now : List M) → 2 * length rows ≤ length old → Filled L (length rows) (row_mark L rows) w (drop 1 w) (length rows) old now → now ≡ after_marking L rows w old
  strip_is w old now room filled =
      filled_all L (length rows) (row_mark L rows) w (drop 1 w) old now (row_marks L rows w) (row_marks L rows (drop 1 w)) room (marks_long w) (marks_long (drop 1 w)) (marks_at w) (marks_at (drop 1 w)) filled
      ∙ sym (cond-false _ _ _ (le-ltb (length old) (2 * length rows) room))
