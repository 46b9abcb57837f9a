-- How a state is printed: the flags that it has, rising, and its four codes, with single spaces.
use Rattle.std.specs.Prelude.{ℕ, cond, List, [], ◌++◌, codes, decimal, ◌==◌}
use Rattle.std.specs.List.{range_with_len, flat_map}
use Rattle.std.specs.Fmt.{signed_decimal}
use Rattle.sessions.specs.States.{has_flag, code_of}
use Rattle.sessions.specs.declared.state.State.{State}

-- a flag that a state has stands after a space
abbrev pub flag_text : State → ℕ → List ℕ
flag_text state p = cond (has_flag p state) (codes " " ++ decimal p) []

-- the flags of a state, rising
unfoldable pub flags_text : State → List ℕ
flags_text state = flat_map (flag_text state) (range_with_len 0 32)

abbrev pub flags_or_none : State → List ℕ
flags_or_none state = cond (state.flags == 0) (codes " none") (flags_text state)

abbrev pub codes_text : State → List ℕ
codes_text state =
    signed_decimal (code_of 0 state) ++ (codes " " ++ (signed_decimal (code_of 1 state) ++ (codes " " ++ (signed_decimal (code_of 2 state) ++ (codes " " ++ signed_decimal (code_of 3 state))))))

abbrev pub state_text : State → List ℕ
state_text state = codes "flags" ++ (flags_or_none state ++ (codes " codes " ++ codes_text state))
