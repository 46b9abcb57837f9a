use Rattle.std.proofs.Common.{◌≡◌, map, take}
use Rattle.tables.specs.Format.{kind_number}
use Rattle.tables.specs.Writing.{laid}
use Rattle.tables.proofs.write.put_kinds.Given as goal

abbrev pub invariant-loop-i : goal.invariant-loop-i
invariant-loop-i l = l.buffer ≡ laid l.at (map kind_number (take l.i l.rows)) l.initial.buffer
