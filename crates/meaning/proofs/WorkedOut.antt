-- The worked examples, worked out.
use Rattle.std.proofs.Common.{refl}
use Rattle.meaning.specs.Meaning.{mark}
use Rattle.meaning.specs.Operators.{meets, joins}
use Rattle.meaning.specs.Worked.{WorkedExamples}

pub worked_out : WorkedExamples
unfolding mark meets joins
worked_out = record {
  next_outside = refl;
  next_inside = refl;
  until_outside = refl;
  until_inside = refl;
  not_inside_nothing = refl;
  always_inside_nothing = refl;
  next_on_one_state = refl;
  next_on_two_states = refl;
  next_inside_one_state = refl;
  lowest_score = refl;
  lowest_score_inside = refl;
  lowest_code_score = refl;
  highest_code_score = refl;
}
