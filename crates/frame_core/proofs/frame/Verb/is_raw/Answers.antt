use Rattle.std.proofs.Common.{rules}
use Rattle.frame_core.proofs.frame.Verb.is_raw.Goals as goal

pub returns-in_default : goal.returns-in_default
returns-in_default c = search rules
