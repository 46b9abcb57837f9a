-- Whether the result of an operation of the yes/no scale is yes.
use Rattle.std.proofs.Common.{◌≡◌, Bool, true, false, not as negated, ◌&&◌, ◌||◌, refl}
use Rattle.scales.specs.YesNo.{answer, is_yes, opposite, both, either}
use Rattle.scales.specs.declared.yes_no.YesNo.{YesNo}
use Rattle.scales.specs.declared.yes_no.YesNo.TheVariants.{No, Yes}

pub is_yes_answer : (b : Bool) → is_yes (answer b) ≡ b
is_yes_answer true = refl
is_yes_answer false = refl

pub is_yes_opposite : (a : YesNo) → is_yes (opposite a) ≡ negated (is_yes a)
is_yes_opposite No = refl
is_yes_opposite Yes = refl

pub is_yes_both : (a b : YesNo) → is_yes (both a b) ≡ (is_yes a && is_yes b)
is_yes_both No b = refl
is_yes_both Yes b = refl

pub is_yes_either : (a b : YesNo) → is_yes (either a b) ≡ (is_yes a || is_yes b)
is_yes_either No b = refl
is_yes_either Yes b = refl
