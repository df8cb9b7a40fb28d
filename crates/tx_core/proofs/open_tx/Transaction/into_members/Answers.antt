use Rattle.std.proofs.Common.{rules}
use Rattle.tx_core.proofs.open_tx.Transaction.into_members.Goals as goal

pub returns-clause-value : goal.returns-clause-value
returns-clause-value c = search rules
