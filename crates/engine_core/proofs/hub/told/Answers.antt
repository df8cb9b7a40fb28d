use Rattle.std.proofs.Common.{refl}
use Rattle.engine_core.proofs.hub.told.Goals as goal

pub returns : goal.returns
returns g c = refl
