use Rattle.std.proofs.Common.{rules}
use Rattle.session_core.proofs.requests.durable_name.Goals as goal

pub returns : goal.returns
returns c = search rules
