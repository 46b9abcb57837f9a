-- For which bodies of a rule a state is left, while a session is marked straight from it.
use Rattle.std.specs.Prelude.{◌≡◌, ℕ, ◌<◌, Bool, false, List, [], ◌∷◌, map, slice_index_or}
use Rattle.rows.specs.Reach.{InRow}
use Rattle.rows.specs.declared.home.Home.{Home}
use Rattle.rows.specs.declared.home.Home.TheVariants.{Outside, Body, Scope}
use Rattle.rows.specs.declared.row.Row.{Row}
use Rattle.sessions.specs.declared.state.State.{State}
use Rattle.marking.specs.Marks.{some}
use Rattle.marking.specs.Straight.{left_in, left_for}
use Rattle.marking.specs.declared.straight.Left.{Left}

-- the states that are left for the body of in row k
abbrev pub body_left : List Row → ℕ → List State → List State
body_left rows k w = left_in (left_for rows) rows (Body k) w

-- what a list with a place for each row says of a home: in the body of in row k what stands at k, elsewhere always the same
abbrev pub at_home : Home → List Bool → Bool → Bool
at_home Outside bodies elsewhere = elsewhere
at_home (Body k) bodies elsewhere = slice_index_or bodies k false
at_home (Scope k) bodies elsewhere = elsewhere

-- there is a place for that in row
abbrev pub Held : Home → ℕ → Type 0
Held Outside long = Unit {0}
Held (Body k) long = k < long
Held (Scope k) long = Unit {0}

-- the list says of each in row whether a state of w is left for its body
abbrev pub Bodies : List Row → List State → List Bool → Type 0
Bodies rows w bodies = (k : ℕ) → InRow rows k → slice_index_or bodies k false ≡ some (body_left rows k w)

-- it says this of any one state with these flags
abbrev pub Passing : List Row → ℕ → List Bool → Type 0
Passing rows flags bodies = (state : State) → flags ≡ state.flags → Bodies rows (state ∷ []) bodies

-- what a list says of the state at hand, and of later ones
abbrev pub heres : List Left → List Bool
heres lefts = map (λ (left : Left). left.here) lefts

abbrev pub laters : List Left → List Bool
laters lefts = map (λ (left : Left). left.later) lefts
