use Rattle.std.proofs.Common.{rules}
use Rattle.recover_core.proofs.store.Store.broker.Goals as goal

pub returns-clause-broker : goal.returns-clause-broker
returns-clause-broker g c = search rules
