-- What the checks of a switch log show.
use Rattle.std.proofs.Common.{◌≡◌, ℕ, zero, suc, ◌-◌, ◌<◌, ◌≤◌, Bool, true, false, cond, not, ◌&&◌, ◌||◌, eqb, ltb, List, length, get_or, Some, None, refl, ap, ap₂, ⊎_elim, arith}
use Rattle.std.proofs.lemmas.Bool.{cases_lt}
use Rattle.std.proofs.lemmas.Bool.Decides.{nat_tests}
use Rattle.refusals.specs.First.{then, first_from}
use Rattle.refusals.proofs.First.{each_none}
use Rattle.sessions.specs.Faults.{flag_fault, tick_fault, log_fault}
use Rattle.sessions.specs.Logs.{Rising}
use Rattle.sessions.specs.declared.fault.SessionFault.{SessionFault}
use Rattle.sessions.specs.declared.fault.SessionFault.TheVariants.{LogLengths, LogFlag, LogTick}

-- a check that finds nothing has a test that fails
fails : (b : Bool) (fault : SessionFault) → cond b (Some fault) None ≡ None → b ≡ false
fails true fault e = let z : ◌≡◌ {A = ℕ} 0 1 = cc in absurd (omega arith)
fails false fault e = refl

pub small_flags : (flags : List ℕ) → first_from (flag_fault flags) 0 (length flags) ≡ None → (k : ℕ) → k < length flags → get_or flags k 0 < 32
small_flags flags none k within =
    let low = fails (ltb 31 (get_or flags k 0)) (LogFlag k) (each_none (flag_fault flags) 0 (length flags) none k (omega arith) (omega arith)) in
    grind (arith, nat_tests)

module _ (count : ℕ) (ticks : List ℕ) (none : first_from (tick_fault count ticks) 0 (length ticks) ≡ None) where
  no_fall : (k : ℕ) → suc k < length ticks → get_or ticks k 0 ≤ get_or ticks (suc k) 0
  no_fall k within =
      let low = fails ((ltb 0 (suc k) && ltb (get_or ticks (suc k) 0) (get_or ticks (suc k - 1) 0)) || not (ltb (get_or ticks (suc k) 0) count)) (LogTick (suc k)) (each_none (tick_fault count ticks) 0 (length ticks) none (suc k) (omega arith) (omega arith)) in
      let before : get_or ticks (suc k - 1) 0 ≡ get_or ticks k 0 = ap (λ n. get_or ticks n 0) (omega arith) in
      grind (arith, nat_tests)

  pub rising : Rising ticks
  rising j zero upto within = let same : j ≡ 0 = omega arith in omega (arith, ap (λ n. get_or ticks n 0) same)
  rising j (suc k) upto within =
      ⊎_elim
      (λ below. omega (arith, rising j k (omega arith) (omega arith), no_fall k within))
      (λ here. let same : j ≡ suc k = omega arith in omega (arith, ap (λ n. get_or ticks n 0) same))
      (cases_lt j (suc k))

pub no_fault : (count : ℕ) (ticks flags : List ℕ) → length ticks ≡ length flags → first_from (flag_fault flags) 0 (length flags) ≡ None → first_from (tick_fault count ticks) 0 (length ticks) ≡ None → log_fault count ticks flags ≡ None
no_fault count ticks flags same fine_flags fine_ticks =
    let passes : eqb (length ticks) (length flags) ≡ true = grind (arith, nat_tests) in
    go (eqb (length ticks) (length flags)) passes
  where
    go : (b : Bool) → b ≡ true → cond b (then (first_from (flag_fault flags) 0 (length flags)) (first_from (tick_fault count ticks) 0 (length ticks))) (Some LogLengths) ≡ None
    go true e = ap₂ then fine_flags fine_ticks
    go false e = let z : ◌≡◌ {A = ℕ} 0 1 = cc in absurd (omega arith)
