-- What the check finds from the place on is what it finds in all.
use Rattle.std.proofs.Common.{◌≡◌, ℕ, ◌-◌, ◌<◌, Option}
use Rattle.refusals.specs.First.{first_from}
use Rattle.refusals.proofs.refuse_first.Given as goal

abbrev pub invariant-loop-place : goal.invariant-loop-place
invariant-loop-place g l =
    (found : ℕ → Option g.row.F.Denot)
    → ((place : ℕ) (fault : Option g.row.F.Denot) → place < l.count → g.C.Fn.post l.check (place, tt) fault → fault ≡ found place)
    → first_from found l.place (l.count - l.place) ≡ first_from found 0 l.count
