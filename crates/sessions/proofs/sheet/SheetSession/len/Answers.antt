use Rattle.std.proofs.Common.{sym, ◌∙◌}
use Rattle.sessions.proofs.Sheets.{length_states}
use Rattle.sessions.proofs.sheet.SheetSession.len.Goals as goal

pub returns : goal.returns
returns c = c.word_at.ensures ∙ sym (length_states _)
