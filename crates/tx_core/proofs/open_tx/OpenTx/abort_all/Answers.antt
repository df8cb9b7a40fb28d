use Rattle.std.proofs.Common.{sym, subst}
use Rattle.tx_core.specs.Transactions.{AreOpen}
use Rattle.tx_core.proofs.Named.{none_open}
use Rattle.tx_core.proofs.open_tx.OpenTx.abort_all.Goals as goal

pub invariant_of-self : goal.invariant_of-self
invariant_of-self c = subst AreOpen (sym c.clear.ensures.items) none_open
