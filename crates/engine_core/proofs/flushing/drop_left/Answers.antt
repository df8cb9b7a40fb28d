use Rattle.std.proofs.Common.{rules}
use Rattle.engine_core.proofs.flushing.drop_left.Goals as goal

pub returns : goal.returns
returns g c = search rules
