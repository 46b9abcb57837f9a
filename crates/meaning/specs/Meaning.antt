-- What a formula means on a session, on any scale.
use Rattle.std.specs.Prelude.{ℕ, Bool, List, [], ◌∷◌, filter}
use Rattle.rows.specs.declared.row.Row.{Row}
use Rattle.scales.specs.Lattice.{Lattice}
use Rattle.scales.specs.YesNo.{yes_no, is_yes}
use Rattle.sessions.specs.declared.state.State.{State}
use Rattle.meaning.specs.Formulas.{Formula, top, flag, code, not, and, or, next, until, always, eventually, inside, formula_at}
use Rattle.meaning.specs.Operators.{flag_mark, code_mark, next_mark, always_mark, eventually_mark, until_mark}

-- A state is in a scope if the scope is yes on that state alone, and a formula inside a scope means what it means on the states
-- that are in the scope.
unfoldable pub mark : {M : Type 0} → Lattice M → Formula → List State → M
mark L top w = L.top
mark L (flag p) w = flag_mark L p w
mark L (code k) w = code_mark L k w
mark L (not a) w = L.complement (mark L a w)
mark L (and a b) w = L.meet (mark L a w) (mark L b w)
mark L (or a b) w = L.join (mark L a w) (mark L b w)
mark L (next a) w = next_mark L (mark L a) w
mark L (until a b) w = until_mark L (mark L a) (mark L b) w
mark L (always a) w = always_mark L (mark L a) w
mark L (eventually a) w = eventually_mark L (mark L a) w
mark L (inside a s) w = mark L a (filter (λ state. is_yes (mark yes_no s (state ∷ []))) w)

-- whether a state is in scope s
abbrev pub in_scope : Formula → State → Bool
in_scope s state = is_yes (mark yes_no s (state ∷ []))

-- the states of a session that are in scope s, in order
abbrev pub thinned : Formula → List State → List State
thinned s w = filter (in_scope s) w

-- what row i of a table means
abbrev pub row_mark : {M : Type 0} → Lattice M → List Row → ℕ → List State → M
row_mark L rows i w = mark L (formula_at rows i) w
