use Rattle.std.proofs.Common.{rules}
use Rattle.claim_core.proofs.ring.Ring.stop.Goals as goal

pub returns : goal.returns
returns g c = search rules
