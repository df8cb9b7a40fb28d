use Rattle.std.proofs.Common.{rules}
use Rattle.ws_core.proofs.link.CloseReason.code.Goals as goal

pub returns-in-GoingAway : goal.returns-in-GoingAway
returns-in-GoingAway c = search rules
