use Rattle.std.proofs.Common.{rules}
use Rattle.engine_core.proofs.flushing.forget_won.Goals as goal

pub returns : goal.returns
returns g c = search rules
