-- The homes that the rows from a number on give are known, and the rows before it are left.
use Rattle.std.proofs.Common.{◌≡◌, length, vec_items, vec_len}
use Rattle.rows.proofs.Backward.{Front}
use Rattle.rows.proofs.Places.{Known}
use Rattle.tables.proofs.homes.find_homes.Given as goal

abbrev pub invariant-loop-number : goal.invariant-loop-number
invariant-loop-number g l =
    let left = l.number-iterator.iter.iter.rest.now in
    record {
      count : l.number-iterator.iter.count ≡ 0;
      front : Front left l.rows;
      long : vec_len l.homes ≡ length l.rows;
      known : Known l.rows (length left) (vec_items l.homes);
    }
