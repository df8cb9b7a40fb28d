use Rattle.std.proofs.Common.{[]}
use Rattle.tx_core.specs.Transactions.{begun}
use Rattle.tx_core.proofs.Orders.{all_more, just_begun, others_stay}
use Rattle.tx_core.proofs.open_tx.members_keep_their_order.Goals as goal

pub returns-clause-order : goal.returns-clause-order
returns-clause-order c = λ name members transactions none. all_more name members [] (begun name transactions) (just_begun name transactions none)

pub returns-clause-others : goal.returns-clause-others
returns-clause-others c = others_stay
