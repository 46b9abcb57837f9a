-- A flag of a word turned over.
use Rattle.std.proofs.Common.{◌≡◌, ℕ, zero, suc, ◌+◌, ◌-◌, ◌/◌, ◌%◌, ◌^◌, ◌<◌, ◌≤◌, cond, not, eqb, refl, ap, ◌∙◌, ⊎_elim, arith, lt-ltb}
use lib.Bits.{bit_xor}
use Rattle.std.proofs.lemmas.Nat.{pow-add, shl-shr, shr_below, pow_below, xor_shr, xor_mod, mod_below}
use Rattle.std.proofs.lemmas.Bool.{cases_lt}
use Rattle.std.proofs.lemmas.Bool.Decides.{nat_tests}
use Rattle.sessions.specs.States.{flag_of}

-- bit p of 2 to the power q
bit_of_power : (p q : ℕ) → 2 ^ q / 2 ^ p % 2 ≡ cond (eqb q p) 1 0
bit_of_power p q = ⊎_elim low (λ up. ⊎_elim high (equal up) (cases_lt p q)) (cases_lt q p)
  where
    low : q < p → 2 ^ q / 2 ^ p % 2 ≡ cond (eqb q p) 1 0
    low h =
        let less : 2 ^ q < 2 ^ (0 + p) = pow_below q (0 + p) (omega arith) in
        let none : 2 ^ q / 2 ^ p ≡ 0 = omega (arith, shr_below (2 ^ q) 0 p less) in
        ap (λ n. n % 2) none ∙ grind (arith, nat_tests)

    high : p < q → 2 ^ q / 2 ^ p % 2 ≡ cond (eqb q p) 1 0
    high h =
        let split : q ≡ (1 + (q - p - 1)) + p = omega arith in
        let whole : 2 ^ q / 2 ^ p ≡ 2 ^ (1 + (q - p - 1)) =
        ap (λ n. 2 ^ n / 2 ^ p) split ∙ ap (λ n. n / 2 ^ p) (pow-add 2 (1 + (q - p - 1)) p) ∙ shl-shr (2 ^ (1 + (q - p - 1))) p
        in
        ap (λ n. n % 2) whole ∙ ap (λ n. n % 2) (pow-add 2 1 (q - p - 1)) ∙ grind (arith, nat_tests)

    equal : p ≤ q → q ≤ p → 2 ^ q / 2 ^ p % 2 ≡ cond (eqb q p) 1 0
    equal up down =
        let same : q ≡ 0 + p = omega arith in
        let one : 2 ^ q / 2 ^ p ≡ 1 = ap (λ n. 2 ^ n / 2 ^ p) same ∙ ap (λ n. n / 2 ^ p) (pow-add 2 0 p) ∙ shl-shr 1 p in
        ap (λ n. n % 2) one ∙ grind (arith, nat_tests)

-- one bit of a sum without carry
bit_xor_lem : (a b : ℕ) → a < 2 → b < 2 → eqb (bit_xor a b) 1 ≡ cond (eqb b 1) (not (eqb a 1)) (eqb a 1)
bit_xor_lem zero zero p q = refl
bit_xor_lem zero (suc zero) p q = refl
bit_xor_lem (suc zero) zero p q = refl
bit_xor_lem (suc zero) (suc zero) p q = refl
bit_xor_lem zero (suc (suc b)) p q = absurd (omega arith)
bit_xor_lem (suc zero) (suc (suc b)) p q = absurd (omega arith)
bit_xor_lem (suc (suc a)) b p q = absurd (omega arith)

pub turned : (p q word : ℕ) → p < 32 → flag_of p (bit_xor word (2 ^ q)) ≡ cond (eqb q p) (not (flag_of p word)) (flag_of p word)
turned p q word small =
    let a = word / 2 ^ p % 2 in
    let b = 2 ^ q / 2 ^ p % 2 in
    let bit : bit_xor word (2 ^ q) / 2 ^ p % 2 ≡ bit_xor a b = ap (λ n. n % 2) (xor_shr word (2 ^ q) p) ∙ xor_mod (word / 2 ^ p) (2 ^ q / 2 ^ p) 1 in
    let is : eqb (bit_xor word (2 ^ q) / 2 ^ p % 2) 1 ≡ cond (eqb b 1) (not (eqb a 1)) (eqb a 1) = ap (λ n. eqb n 1) bit ∙ bit_xor_lem a b (mod_below (word / 2 ^ p) 2 (omega arith)) (mod_below (2 ^ q / 2 ^ p) 2 (omega arith)) in
    grind (arith, nat_tests, is, bit_of_power p q, lt-ltb p 32 small)
