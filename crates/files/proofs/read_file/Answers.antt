use Rattle.std.proofs.Common.{arith}
use Rattle.files.proofs.read_file.Goals as goal

pub returns : goal.returns
returns c = omega (arith, c.truncate.ensures.len)
