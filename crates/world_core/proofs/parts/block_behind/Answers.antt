use Rattle.std.proofs.Common.{refl}
use Rattle.world_core.proofs.parts.block_behind.Goals as goal

pub returns-clause-at : goal.returns-clause-at
returns-clause-at c = refl

pub returns-clause-bytes : goal.returns-clause-bytes
returns-clause-bytes c = c.in_ok-bytes.ensures
