-- What a call answers that is refused where there is a fault.
use Rattle.std.specs.Prelude.{◌≡◌, Some, None, Ok, Err, Option, Result}

-- the fault if there is one, and otherwise a value of which P holds
abbrev pub Answers : {X F : Type 0} → Option F → Result X F → (X → Type 0) → Type 0
Answers fault (Ok x) P = (fault ≡ None) × P x
Answers fault (Err f) P = fault ≡ Some f

-- the same of a check, which has no value to give
abbrev pub Checks : {F : Type 0} → Option F → Result (Unit {0}) F → Type 0
Checks fault (Ok x) = fault ≡ None
Checks fault (Err f) = fault ≡ Some f
