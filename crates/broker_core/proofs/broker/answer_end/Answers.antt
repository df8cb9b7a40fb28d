use Rattle.std.proofs.Common.{rules}
use Rattle.broker_core.proofs.broker.answer_end.Goals as goal

pub returns-in-Lost : goal.returns-in-Lost
returns-in-Lost c = search rules
