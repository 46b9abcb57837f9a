use Rattle.std.proofs.Common.{rules}
use Rattle.meaning.proofs.WorkedOut.{worked_out}
use Rattle.meaning.proofs.examples.example_session.Goals as goal

pub returns : goal.returns
returns c = record { states = search rules; meanings = worked_out }
