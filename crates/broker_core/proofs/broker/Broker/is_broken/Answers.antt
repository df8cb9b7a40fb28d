use Rattle.std.proofs.Common.{rules}
use Rattle.broker_core.proofs.broker.Broker.is_broken.Goals as goal

pub returns-clause-value : goal.returns-clause-value
returns-clause-value c = search rules
