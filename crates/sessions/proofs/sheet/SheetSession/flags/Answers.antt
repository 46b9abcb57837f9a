use Rattle.std.proofs.Common.{sym, arith}
use Rattle.sessions.proofs.Sheets.{length_states, flags_here, flags_past}
use Rattle.sessions.proofs.sheet.SheetSession.flags.Goals as goal

pub returns-then-position-len : goal.returns-then-position-len
returns-then-position-len c =
    let bytes = c.args.self.now.bytes.now in
    sym (flags_past bytes c.args.position (omega (arith, length_states bytes, c.len.ensures)))

pub returns : goal.returns
returns c =
    let bytes = c.args.self.now.bytes.now in
    flags_here bytes c.args.position c.long_at.ensures c.from.ensures (omega (arith, length_states bytes, c.len.ensures))
