use Rattle.std.proofs.Common.{rules}
use Rattle.broker_state.proofs.parts.has_waiting.Goals as goal

pub returns-in-None : goal.returns-in-None
returns-in-None c = search rules
