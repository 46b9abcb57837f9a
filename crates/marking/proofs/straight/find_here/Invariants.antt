use Rattle.std.proofs.Common.{◌≡◌, length, vec_items}
use Rattle.marking.specs.Bodies.{heres, laters}
use Rattle.marking.proofs.Bodies.{PassingFrom}
use Rattle.marking.proofs.Walks.{Back, homes_left}
use Rattle.marking.proofs.straight.find_here.Given as goal

abbrev pub invariant-loop-number : goal.invariant-loop-number
invariant-loop-number l = record {
  back : Back (vec_items l.rule.homes) l.number-iterator;
  here : PassingFrom (length (homes_left l.number-iterator)) (vec_items l.rule.table.rows) l.state.flags (heres l.bodies);
  later : laters l.bodies ≡ laters l.initial.bodies;
}
