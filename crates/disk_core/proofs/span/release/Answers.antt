use Rattle.std.proofs.Common.{rules}
use Rattle.disk_core.proofs.span.release.Goals as goal

pub returns : goal.returns
returns c = search rules
