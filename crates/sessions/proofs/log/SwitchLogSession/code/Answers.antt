use Rattle.std.proofs.Common.{vec_items, sym}
use Rattle.sessions.proofs.Logs.{no_codes}
use Rattle.sessions.proofs.log.SwitchLogSession.code.Goals as goal

pub returns : goal.returns
returns c = sym (no_codes (vec_items c.args.self.now.words) c.args._position c.args._number)
