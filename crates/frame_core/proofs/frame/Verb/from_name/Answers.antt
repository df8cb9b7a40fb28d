use Rattle.std.proofs.Common.{rules}
use Rattle.frame_core.proofs.frame.Verb.from_name.Goals as goal

pub returns-in-NACK : goal.returns-in-NACK
returns-in-NACK c = search rules
