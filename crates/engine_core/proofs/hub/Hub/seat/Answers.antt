use Rattle.std.proofs.Common.{rules}
use Rattle.engine_core.proofs.hub.Hub.seat.Goals as goal

pub returns-clause-next : goal.returns-clause-next
returns-clause-next g c = search rules
