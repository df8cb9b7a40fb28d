use Rattle.std.proofs.Common.{rules}
use Rattle.disk_core.proofs.span.is_image.Goals as goal

pub loop-at-preserved : goal.loop-at-preserved
loop-at-preserved c = search rules
