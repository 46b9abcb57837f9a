-- A formula without scopes that means on a session what a formula means on the states of it that are in a scope.
use Rattle.meaning.specs.Formulas.{Formula, top, flag, code, not, and, or, next, until, always, eventually, inside}

-- from any state on, the first state in the gate, and there a
abbrev pub first_in : Formula → Formula → Formula
first_in gate a = until (not gate) (and gate a)

-- a, taken on the states that are in the gate
unfoldable pub gated : Formula → Formula → Formula
gated gate top = top
gated gate (flag p) = first_in gate (flag p)
gated gate (code k) = first_in gate (code k)
gated gate (not a) = not (gated gate a)
gated gate (and a b) = and (gated gate a) (gated gate b)
gated gate (or a b) = or (gated gate a) (gated gate b)
gated gate (next a) = first_in gate (next (first_in gate (gated gate a)))
gated gate (until a b) = until (or (not gate) (gated gate a)) (and gate (gated gate b))
gated gate (always a) = always (or (not gate) (gated gate a))
gated gate (eventually a) = eventually (and gate (gated gate a))
gated gate (inside a s) = gated (and gate s) a

-- a without its scopes
unfoldable pub plain : Formula → Formula
plain top = top
plain (flag p) = flag p
plain (code k) = code k
plain (not a) = not (plain a)
plain (and a b) = and (plain a) (plain b)
plain (or a b) = or (plain a) (plain b)
plain (next a) = next (plain a)
plain (until a b) = until (plain a) (plain b)
plain (always a) = always (plain a)
plain (eventually a) = eventually (plain a)
plain (inside a s) = gated s a

-- a formula of which a scope may be made
unfoldable pub Propositional : Formula → Type 0
Propositional top = Unit {0}
Propositional (flag p) = Unit {0}
Propositional (code k) = ⊥
Propositional (not a) = Propositional a
Propositional (and a b) = Propositional a × Propositional b
Propositional (or a b) = Propositional a × Propositional b
Propositional (next a) = ⊥
Propositional (until a b) = ⊥
Propositional (always a) = ⊥
Propositional (eventually a) = ⊥
Propositional (inside a s) = ⊥

-- all scopes in a formula are propositional
unfoldable pub Scoped : Formula → Type 0
Scoped top = Unit {0}
Scoped (flag p) = Unit {0}
Scoped (code k) = Unit {0}
Scoped (not a) = Scoped a
Scoped (and a b) = Scoped a × Scoped b
Scoped (or a b) = Scoped a × Scoped b
Scoped (next a) = Scoped a
Scoped (until a b) = Scoped a × Scoped b
Scoped (always a) = Scoped a
Scoped (eventually a) = Scoped a
Scoped (inside a s) = Scoped a × Propositional s
