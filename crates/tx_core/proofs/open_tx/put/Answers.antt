use Rattle.std.proofs.Common.{rules}
use Rattle.tx_core.proofs.open_tx.put.Goals as goal

pub returns-clause-ok : goal.returns-clause-ok
returns-clause-ok c = search rules
