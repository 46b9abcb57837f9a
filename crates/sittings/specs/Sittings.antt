-- What recording and taking back do to the list of states of a sitting.
use Rattle.std.specs.Prelude.{◌-◌, cond, List, [], ◌∷◌, ◌++◌, length, take, Some, None, Option, ◌==◌, nat_lt}
use Rattle.sessions.specs.declared.state.State.{State}
use Rattle.sittings.specs.declared.fault.SittingFault.{SittingFault}
use Rattle.sittings.specs.declared.fault.SittingFault.TheVariants.{Full, NoState}

-- a sitting has at most 1,024 states
abbrev pub record_fault : List State → Option SittingFault
record_fault w = cond (nat_lt (length w) 1024) None (Some Full)

abbrev pub recorded : State → List State → List State
recorded state w = cond (nat_lt (length w) 1024) (w ++ (state ∷ [])) w

abbrev pub take_back_fault : List State → Option SittingFault
take_back_fault w = cond (length w == 0) (Some NoState) None

abbrev pub taken_back : List State → List State
taken_back w = take (length w - 1) w
