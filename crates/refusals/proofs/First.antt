-- The first fault that a check finds.
use Rattle.std.proofs.Common.{◌≡◌, ℕ, zero, suc, ◌+◌, ◌-◌, ◌<◌, ◌≤◌, Some, None, Option, refl, ap, ◌∙◌, subst, ⊎_elim, arith}
use Rattle.std.proofs.str.Laws.{order}
use Rattle.refusals.specs.First.{then, first_from}

-- two checks, one after the other
pub then_first : {F : Type 0} (a b : Option F) → then a b ≡ None → a ≡ None
then_first None b e = refl
then_first (Some f) b e = e

pub then_second : {F : Type 0} (a b : Option F) → then a b ≡ None → b ≡ None
then_second None b e = e
then_second (Some f) b e = let z : ◌≡◌ {A = ℕ} 0 1 = cc in absurd (omega arith)

module _ {F : Type 0} (check : ℕ → Option F) where
  -- the places from i up to n, where i is one of them
  open_first : (i n : ℕ) → i < n → first_from check i (n - i) ≡ then (check i) (first_from check (i + 1) (n - (i + 1)))
  unfolding first_from
  open_first i n h = let e : n - i ≡ suc (n - (i + 1)) = omega arith in ap (first_from check i) e

  pub first_step : (i n : ℕ) → i < n → check i ≡ None → first_from check i (n - i) ≡ first_from check (i + 1) (n - (i + 1))
  first_step i n h e = open_first i n h ∙ ap (λ o. then o (first_from check (i + 1) (n - (i + 1)))) e

  pub first_here : (i n : ℕ) {f : F} → i < n → check i ≡ Some f → first_from check i (n - i) ≡ Some f
  first_here i n h e = open_first i n h ∙ ap (λ o. then o (first_from check (i + 1) (n - (i + 1)))) e

  pub first_end : (i n : ℕ) → n ≤ i → first_from check i (n - i) ≡ None
  unfolding first_from
  first_end i n h = let e : n - i ≡ 0 = omega arith in ap (first_from check i) e

  pub first_none : (i count : ℕ) → ((k : ℕ) → i ≤ k → k < i + count → check k ≡ None) → first_from check i count ≡ None
  unfolding first_from
  first_none i zero all = refl
  first_none i (suc count) all =
      ap (λ o. then o (first_from check (i + 1) count)) (all i (omega arith) (omega arith))
      ∙ first_none (i + 1) count (λ k low high. all k (omega arith) (omega arith))

  pub each_none : (i count : ℕ) → first_from check i count ≡ None → (k : ℕ) → i ≤ k → k < i + count → check k ≡ None
  unfolding first_from
  each_none i zero e k low high = absurd (omega arith)
  each_none i (suc count) e k low high =
      ⊎_elim
      (λ later. each_none (i + 1) count (then_second (check i) (first_from check (i + 1) count) e) k (omega arith) (omega arith))
      (λ here. let same : i ≡ k = omega arith in subst (λ m. check m ≡ None) same (then_first (check i) (first_from check (i + 1) count) e))
      (order i k)
