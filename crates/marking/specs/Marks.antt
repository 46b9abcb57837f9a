-- The mark of one row, from the marks of its operands and its own mark one state later.
use Rattle.std.specs.Prelude.{◌≡◌, ℕ, ◌+◌, ◌*◌, ◌<◌, ◌≤◌, Bool, true, false, cond, List, [], ◌∷◌, length, get_or, slice_index_or}
use Rattle.rows.specs.Kinds.{is_in}
use Rattle.rows.specs.Rows.{blank}
use Rattle.rows.specs.declared.kind.Kind.{Kind}
use Rattle.rows.specs.declared.kind.Kind.TheVariants.{Top, Flag, Code, Not, And, Or, Next, Until, Always, Eventually, In}
use Rattle.rows.specs.declared.row.Row.{Row}
use Rattle.scales.specs.Lattice.{Lattice}
use Rattle.sessions.specs.States.{has_flag, code_of}
use Rattle.sessions.specs.declared.state.State.{State}

-- the operands of a row of this kind and number, with these halves, are below it
abbrev pub Fits : Kind → ℕ → ℕ → ℕ → Type 0
Fits Top number left right = Unit {0}
Fits Flag number left right = Unit {0}
Fits Code number left right = Unit {0}
Fits Not number left right = left < number
Fits And number left right = (left < number) × (right < number)
Fits Or number left right = (left < number) × (right < number)
Fits Next number left right = left < number
Fits Until number left right = (left < number) × (right < number)
Fits Always number left right = left < number
Fits Eventually number left right = left < number
Fits In number left right = (left < number) × (right < number)

-- this is so of every row of a table
abbrev pub Sound : List Row → Type 0
Sound rows = (i : ℕ) → i < length rows → Fits (get_or rows i blank).kind i (get_or rows i blank).left (get_or rows i blank).right

-- no row of a table is an in row
abbrev pub NoIn : List Row → Type 0
NoIn rows = (i : ℕ) → i < length rows → is_in (get_or rows i blank).kind ≡ false

-- a session has a state
abbrev pub some : List State → Bool
some [] = false
some (state ∷ w) = true

module _ {M : Type 0} (L : Lattice M) where
  -- On the empty session, where the operands have the marks a and b. An in row has the mark of its left operand.
  abbrev pub empty_by : Kind → M → M → M
  empty_by Top a b = L.top
  empty_by Flag a b = L.bottom
  empty_by Code a b = L.bottom
  empty_by Not a b = L.complement a
  empty_by And a b = L.meet a b
  empty_by Or a b = L.join a b
  empty_by Next a b = L.bottom
  empty_by Until a b = L.bottom
  empty_by Always a b = L.top
  empty_by Eventually a b = L.bottom
  empty_by In a b = a

  -- On a session with this state in front: a and b are the operands' marks on it, after and own are the left operand's and the
  -- row's own mark on the session without that state, which is not empty if later is true.
  abbrev pub state_by : Kind → ℕ → State → Bool → M → M → M → M → M
  state_by Top left state later a b after own = L.top
  state_by Flag left state later a b after own = cond (has_flag left state) L.top L.bottom
  state_by Code left state later a b after own = L.reading (code_of left state)
  state_by Not left state later a b after own = L.complement a
  state_by And left state later a b after own = L.meet a b
  state_by Or left state later a b after own = L.join a b
  state_by Next left state later a b after own = cond later after L.bottom
  state_by Until left state later a b after own = L.join b (L.meet a own)
  state_by Always left state later a b after own = L.meet a own
  state_by Eventually left state later a b after own = L.join a own
  state_by In left state later a b after own = a

  -- these are the marks of the first i rows on w, where meant k w is what row k's mark on w is
  abbrev pub MarksOn : (meant : ℕ → List State → M) → List State → ℕ → List M → Type 0
  MarksOn meant w i marks = (k : ℕ) → k < i → slice_index_or marks k L.top ≡ meant k w

  -- The strip now, old before, has the marks of the first i of so many rows, where meant k w is what row k's mark on w is: on w
  -- at the place of each row, on later in the second half. The other rows' marks and those past both halves are as they were.
  pub record Filled (count : ℕ) (meant : ℕ → List State → M) (w later : List State) (i : ℕ) (old now : List M) : Type 0 where
    pub long : length now ≡ length old
    pub first : (k : ℕ) → k < i → slice_index_or now k L.top ≡ meant k w
    pub second : (k : ℕ) → k < i → slice_index_or now (count + k) L.top ≡ meant k later
    pub ahead : (k : ℕ) → i ≤ k → k < count → slice_index_or now k L.top ≡ slice_index_or old k L.top
    pub rest : (k : ℕ) → 2 * count ≤ k → slice_index_or now k L.top ≡ slice_index_or old k L.top
