use Rattle.std.proofs.Common.{◌≡◌, ℕ, ◌≤◌, length, get_or, drop, vec_items}
use Rattle.marking.specs.Marks.{MarksOn}
use Rattle.marking.specs.Straight.{straight_mark}
use Rattle.marking.proofs.straight.step.Given as goal

-- the marks of the rows so far, and those of the others as they were
abbrev pub invariant-loop-number : goal.invariant-loop-number
invariant-loop-number g l =
    let L = g.M.Scale.ops in
    record {
      here : MarksOn L (straight_mark L (vec_items l.rule.table.rows)) (drop l.position (g.S.Session.states l.session)) (length l.yielded) l.marks;
      ahead : (k : ℕ) → length l.yielded ≤ k → get_or l.marks k L.top ≡ get_or l.initial.marks k L.top;
    }
