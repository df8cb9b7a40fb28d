use Rattle.std.proofs.Common.{rules}
use Rattle.ws_core.proofs.ws_link.limits.Goals as goal

pub returns : goal.returns
returns c = search rules
