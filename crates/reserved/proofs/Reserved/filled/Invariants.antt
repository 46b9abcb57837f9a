-- So far there is a copy for each turn, and the room is what it was.
use Rattle.std.proofs.Common.{◌≡◌, ◌≤◌, replicate, vec_len, vec_capacity}
use Rattle.reserved.proofs.Reserved.filled.Given as goal

abbrev pub invariant-loop : goal.invariant-loop
invariant-loop g l = record {
  copies : l.list.items ≡ replicate l.counter l.value;
  len : vec_len l.list ≡ l.counter;
  room : g.row.N ≤ vec_capacity l.list;
}
