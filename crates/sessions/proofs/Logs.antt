-- The words of a switch log.
use Rattle.std.proofs.Common.{◌≡◌, ℕ, zero, suc, ◌+◌, ◌/◌, ◌^◌, ◌<◌, ◌≤◌, Bool, true, false, cond, not, ◌&&◌, eqb, leb, List, [], ◌∷◌, ◌++◌, length, get_or, pos, sym, refl, ap, ◌∙◌, ap₂, ⊎_elim, add-one, arith, length-append}
use lib.Bits.{bit_xor}
use Rattle.std.proofs.lemmas.Nat.{shr_le}
use Rattle.std.proofs.lemmas.List.{length-map, get_or_append_left, get_or_push}
use Rattle.std.proofs.lemmas.Bool.{cases_lt}
use Rattle.std.proofs.lemmas.Bool.Decides.{nat_tests}
use Rattle.sessions.specs.Logs.{switches, odd, Switched, state_of, log_states}
use Rattle.sessions.specs.States.{flag_of, flags_at, code_at}
use Rattle.sessions.proofs.Positions.{no_code}
use Rattle.sessions.proofs.Words.{turned}

-- one more is odd where it was even
odd_more : (n : ℕ) → odd (n + 1) ≡ not (odd n)
odd_more n = grind (arith, nat_tests)

-- how many of the first e entries have flag p
unfoldable pub among : List ℕ → ℕ → ℕ → ℕ
among flags zero p = 0
among [] (suc e) p = 0
among (flag ∷ flags) (suc e) p = cond (eqb flag p) 1 0 + among flags e p

among_more : (flags : List ℕ) (e p : ℕ) → e < length flags → among flags (suc e) p ≡ among flags e p + cond (eqb (get_or flags e 0) p) 1 0
unfolding among
among_more [] e p h = absurd (omega arith)
among_more (flag ∷ flags) zero p h = omega arith
among_more (flag ∷ flags) (suc e) p h = omega (arith, among_more flags e p (omega arith))

-- a word has flag p exactly when an odd number of the first e entries have it
abbrev pub Turned : List ℕ → ℕ → ℕ → Type 0
Turned flags e word = (p : ℕ) → p < 32 → flag_of p word ≡ odd (among flags e p)

pub turned_more : (flags : List ℕ) (e word : ℕ) → e < length flags → Turned flags e word → Turned flags (e + 1) (bit_xor word (2 ^ get_or flags e 0))
turned_more flags e word within sofar p small =
    turned p (get_or flags e 0) word small
    ∙ ap₂ (λ x y. cond (eqb (get_or flags e 0) p) x y) (ap not (sofar p small)) (sofar p small)
    ∙ go (eqb (get_or flags e 0) p)
    ∙ ap odd (sym (among_more flags e p within) ∙ ap (λ n. among flags n p) (sym (add-one e)))
  where
    go : (b : Bool) → cond b (not (odd (among flags e p))) (odd (among flags e p)) ≡ odd (among flags e p + cond b 1 0)
    go true = sym (odd_more (among flags e p))
    go false = ap odd (omega arith)

-- where the ticks of the first e entries are at most i and those of the others above, the first e entries are those that count
pub all_switches : (ticks flags : List ℕ) (e i p : ℕ) → length ticks ≡ length flags → ((k : ℕ) → k < e → get_or ticks k 0 ≤ i) → ((k : ℕ) → e ≤ k → k < length ticks → i < get_or ticks k 0) → switches ticks flags p i ≡ among flags e p
unfolding switches among
all_switches [] [] zero i p same low high = refl
all_switches [] [] (suc e) i p same low high = refl
all_switches [] (flag ∷ flags) e i p same low high = absurd (omega arith)
all_switches (tick ∷ ticks) [] e i p same low high = absurd (omega arith)
all_switches (tick ∷ ticks) (flag ∷ flags) zero i p same low high =
    let rest = all_switches ticks flags zero i p (omega arith) (λ k h. absurd (omega arith)) (λ k h within. high (suc k) (omega arith) (omega arith)) in
    let above : i < tick = high 0 (omega arith) (omega arith) in
    ap₂ ◌+◌ (none above) rest
  where
    none : i < tick → cond {A = ℕ} (leb tick i && eqb flag p) 1 0 ≡ 0
    none above = grind (arith, nat_tests)
all_switches (tick ∷ ticks) (flag ∷ flags) (suc e) i p same low high =
    let rest = all_switches ticks flags e i p (omega arith) (λ k h. low (suc k) (omega arith)) (λ k h within. high (suc k) (omega arith) (omega arith)) in
    let upto : tick ≤ i = low 0 (omega arith) in
    ap₂ ◌+◌ (counts upto) rest
  where
    counts : tick ≤ i → cond {A = ℕ} (leb tick i && eqb flag p) 1 0 ≡ cond (eqb flag p) 1 0
    counts upto = grind (arith, nat_tests)

pub turned_none : (flags : List ℕ) → Turned flags 0 0
unfolding among
turned_none flags p small = grind (arith, nat_tests, zero_shr p)
  where
    zero_shr : (p : ℕ) → 0 / 2 ^ p ≡ 0
    zero_shr p = omega (arith, shr_le 0 p)

pub flags_word : (words : List ℕ) (i : ℕ) → flags_at (log_states words) i ≡ get_or words i 0
flags_word [] i = refl
flags_word (word ∷ words) zero = refl
flags_word (word ∷ words) (suc i) = flags_word words i

module _ (ticks flags : List ℕ) where
  pub switched_none : (words : List ℕ) → words ≡ [] → Switched ticks flags (log_states words)
  switched_none words none i p within small = absurd (omega (arith, ap length none, length-map words state_of))

  -- one more word
  pub switched_more : (words more : List ℕ) (word : ℕ) → more ≡ words ++ (word ∷ []) → ((p : ℕ) → p < 32 → flag_of p word ≡ odd (switches ticks flags p (length words))) → Switched ticks flags (log_states words) → Switched ticks flags (log_states more)
  switched_more words more word is here before i p within small =
      ap (flag_of p) (flags_word more i ∙ ap (λ l. get_or l i 0) is)
      ∙ ⊎_elim
      (λ low.
      ap (flag_of p) (get_or_append_left words (word ∷ []) 0 i low ∙ sym (flags_word words i))
      ∙ before i p (omega (arith, length-map words state_of)) small)
      (λ high.
      let last : i ≡ length words = omega (arith, high, ap length is, length-append words (word ∷ []), length-map more state_of) in
      ap (λ n. flag_of p (get_or (words ++ (word ∷ [])) n 0)) last
      ∙ ap (flag_of p) (get_or_push words word 0 (length words) refl)
      ∙ here p small
      ∙ ap (λ n. odd (switches ticks flags p n)) (sym last))
      (cases_lt i (length words))

-- the word of state i, once all entries with a tick of i or less are done
pub turned_here : (ticks flags : List ℕ) (e i word : ℕ) → length ticks ≡ length flags → ((k : ℕ) → k < e → get_or ticks k 0 ≤ i) → ((k : ℕ) → e ≤ k → k < length ticks → i < get_or ticks k 0) → Turned flags e word → (p : ℕ) → p < 32 → flag_of p word ≡ odd (switches ticks flags p i)
turned_here ticks flags e i word same low high sofar p small = sofar p small ∙ ap odd (sym (all_switches ticks flags e i p same low high))

pub no_codes : (words : List ℕ) (i k : ℕ) → code_at (log_states words) i k ≡ pos 0
no_codes [] i k = no_code k
no_codes (word ∷ words) zero k = no_code k
no_codes (word ∷ words) (suc i) k = no_codes words i k
