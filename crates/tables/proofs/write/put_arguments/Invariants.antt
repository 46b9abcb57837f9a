use Rattle.std.proofs.Common.{◌≡◌, take}
use Rattle.std.specs.List.{flat_map}
use Rattle.tables.specs.Format.{half_bytes}
use Rattle.tables.specs.Writing.{laid}
use Rattle.tables.proofs.write.put_arguments.Given as goal

abbrev pub invariant-loop-i : goal.invariant-loop-i
invariant-loop-i l = l.buffer ≡ laid l.at (flat_map half_bytes (take l.i l.rows)) l.initial.buffer
