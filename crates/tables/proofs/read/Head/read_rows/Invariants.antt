use Rattle.std.proofs.Common.{◌≡◌, ◌-◌, ◌≤◌, map, vec_items, vec_len, vec_capacity}
use Rattle.std.specs.List.{range_with_len}
use Rattle.refusals.specs.First.{first_from}
use Rattle.tables.specs.Faults.{fault_at}
use Rattle.tables.specs.Format.{row_at}
use Rattle.tables.proofs.read.Head.read_rows.Given as goal

abbrev pub invariant-loop-i : goal.invariant-loop-i
invariant-loop-i g l =
    let check = fault_at l.self.form l.self.rows l.self.flags l.self.codes l.rest in
    (vec_items l.rows ≡ map (row_at l.rest l.self.rows) (range_with_len 0 l.i))
    × (vec_len l.rows ≡ l.i)
    × (g.row.N ≤ vec_capacity l.rows)
    × (first_from check l.i (l.self.rows - l.i) ≡ first_from check 0 l.self.rows)
