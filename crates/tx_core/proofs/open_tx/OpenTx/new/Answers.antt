use Rattle.std.proofs.Common.{sym, subst}
use Rattle.tx_core.specs.Transactions.{AreOpen}
use Rattle.tx_core.proofs.Named.{none_open}
use Rattle.tx_core.proofs.open_tx.OpenTx.new.Goals as goal

pub invariant_of-result : goal.invariant_of-result
invariant_of-result c = subst AreOpen (sym c.new.ensures.items) none_open
