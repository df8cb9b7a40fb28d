use Rattle.std.proofs.Common.{rules}
use Rattle.session_core.proofs.requests.durable_name_at.Goals as goal

pub returns : goal.returns
returns c = search rules
