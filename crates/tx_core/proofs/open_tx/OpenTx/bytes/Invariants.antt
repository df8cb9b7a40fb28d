use Rattle.std.proofs.Common.{◌≡◌, ◌≤◌, ◌*◌, take}
use Rattle.tx_core.specs.Transactions.{bytes_of_all}
use Rattle.tx_core.proofs.open_tx.OpenTx.bytes.Given as goal

abbrev pub invariant-loop-transaction : goal.invariant-loop-transaction
invariant-loop-transaction l = (l.sum ≡ bytes_of_all (take l.transaction-index l.transaction-items)) × (l.sum ≤ l.transaction-index * 262144)
