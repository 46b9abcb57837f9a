-- The first of several faults.
use Rattle.std.specs.Prelude.{◌≡◌, ℕ, zero, suc, ◌+◌, ◌<◌, Some, None, Option}

-- a fault, and after it a second one that counts only where the first is none
abbrev pub then : {F : Type 0} → Option F → Option F → Option F
then None second = second
then (Some fault) second = Some fault

-- the first fault that a check finds at the places i, i + 1 and so on, count places in all
unfoldable pub first_from : {F : Type 0} → (ℕ → Option F) → ℕ → ℕ → Option F
first_from check i zero = None
first_from check i (suc count) = then (check i) (first_from check (i + 1) count)

-- what a check may answer at a place below count is the fault found there
abbrev pub Tells : {F : Type 0} → (ℕ → Option F → Type 0) → ℕ → (ℕ → Option F) → Type 0
Tells {F} answers count found = (place : ℕ) (fault : Option F) → place < count → answers place fault → fault ≡ found place
