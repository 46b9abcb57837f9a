use Rattle.std.specs.Fmt.{HasWritten, IsPlainFormatter}
use Rattle.std.specs.List.{range_with_len, flat_map}
use Rattle.sessions.specs.Printed.{flag_text}
use Rattle.sessions.proofs.print.FlagsDisplay.fmt.Given as goal

abbrev pub invariant-loop-flag : goal.invariant-loop-flag
invariant-loop-flag g l =
    IsPlainFormatter l.initial.f → HasWritten g.W.Write.write_str_gives l.initial.f (flat_map (flag_text l.state) (range_with_len 0 l.flag-counter)) l.f
