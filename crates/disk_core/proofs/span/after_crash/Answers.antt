use Rattle.std.proofs.Common.{rules}
use Rattle.disk_core.proofs.span.after_crash.Goals as goal

pub returns-in-None : goal.returns-in-None
returns-in-None c = search rules
