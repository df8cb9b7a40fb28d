use Rattle.std.proofs.Common.{rules}
use Rattle.ws_core.proofs.ws_link.bytes_of.Goals as goal

pub returns-in-Ok : goal.returns-in-Ok
returns-in-Ok c = search rules
