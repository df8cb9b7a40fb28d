use Rattle.std.proofs.Common.{rules}
use Rattle.broker_core.proofs.broker.answer_open.Goals as goal

pub returns : goal.returns
returns c = search rules
