use Rattle.std.proofs.Common.{rules}
use Rattle.session_core.proofs.requests.nack.Goals as goal

pub returns-in_ok-header-in-Ok : goal.returns-in_ok-header-in-Ok
returns-in_ok-header-in-Ok c = search rules
