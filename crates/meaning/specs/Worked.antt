-- Worked examples of what formulas mean.
use Rattle.std.specs.Prelude.{◌≡◌, ℕ, List, [], ◌∷◌, ℤ, pos, negsuc}
use Rattle.scales.specs.Scores.{scores}
use Rattle.scales.specs.YesNo.{yes_no}
use Rattle.scales.specs.declared.yes_no.YesNo.{YesNo}
use Rattle.scales.specs.declared.yes_no.YesNo.TheVariants.{No, Yes}
use Rattle.sessions.specs.declared.state.State.{State}
use Rattle.meaning.specs.Formulas.{Formula, top, flag, code, not, or, next, until, always, inside}
use Rattle.meaning.specs.Meaning.{mark}

-- a state of this word with this code 0, the other codes being 0
abbrev pub state_with : ℕ → ℤ → State
state_with word first = record { flags = word; codes = first ∷ pos 0 ∷ pos 0 ∷ pos 0 ∷ [] }

-- words 1, 4, 2, 4 and codes 20, -30, 55, 10
abbrev pub example : List State
example = state_with 1 (pos 20) ∷ state_with 4 (negsuc 29) ∷ state_with 2 (pos 55) ∷ state_with 4 (pos 10) ∷ []

-- flag 0 or flag 1
abbrev pub zone : Formula
zone = or (flag 0) (flag 1)

abbrev pub answer_to : Formula → YesNo
answer_to formula = mark yes_no formula example

abbrev pub score_of : Formula → ℤ
score_of formula = (mark scores formula example).value

pub record WorkedExamples : Type 0 where
  -- the state after the first has flag 2 alone; inside the zone, the state after the first has flag 1
  pub next_outside : answer_to (next (flag 1)) ≡ No
  pub next_inside : answer_to (inside (next (flag 1)) zone) ≡ Yes
  -- a state without flag 0 stands before the first with flag 1, but not inside the zone
  pub until_outside : answer_to (until (flag 0) (flag 1)) ≡ No
  pub until_inside : answer_to (inside (until (flag 0) (flag 1)) zone) ≡ Yes
  -- no state has flag 5: inside it, the session is empty
  pub not_inside_nothing : answer_to (inside (not (flag 1)) (flag 5)) ≡ Yes
  pub always_inside_nothing : answer_to (inside (always (flag 1)) (flag 5)) ≡ Yes
  -- next fails on the last state, whatever its operand
  pub next_on_one_state : mark yes_no (next (not (flag 5))) (state_with 0 (pos 0) ∷ []) ≡ No
  pub next_on_two_states : mark yes_no (next (not (flag 5))) (state_with 0 (pos 0) ∷ state_with 0 (pos 0) ∷ []) ≡ Yes
  pub next_inside_one_state : answer_to (inside (next top) (flag 1)) ≡ No
  -- the lowest code of all states, and of those in the zone
  pub lowest_score : score_of (always (code 0)) ≡ negsuc 29
  pub lowest_score_inside : score_of (inside (always (code 0)) zone) ≡ pos 20
  -- codes are held to the range of scores
  pub lowest_code_score : (mark scores (code 0) (state_with 0 (negsuc 127) ∷ [])).value ≡ negsuc 99
  pub highest_code_score : (mark scores (code 0) (state_with 0 (pos 127) ∷ [])).value ≡ pos 100
