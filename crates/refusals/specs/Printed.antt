-- How a refusal is printed: its number and its place.
use Rattle.std.specs.Prelude.{ℕ, List, ◌++◌, codes, decimal}
use Rattle.refusals.specs.declared.Refusal.{Refusal}

abbrev pub refusal_text : ℕ → ℕ → List ℕ
refusal_text number place = codes "! " ++ (decimal number ++ (codes " " ++ decimal place))

abbrev pub printed : Refusal → List ℕ
printed refusal = refusal_text refusal.number refusal.place
