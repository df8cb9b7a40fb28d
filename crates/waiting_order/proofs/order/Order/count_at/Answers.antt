use Rattle.waiting_order.proofs.Keeping.{counted_by}
use Rattle.waiting_order.specs.Directories.{is_plain_at}
use Rattle.waiting_order.proofs.order.Order.count_at.Goals as goal

pub returns-clause-count : goal.returns-clause-count
returns-clause-count c =
    counted_by (is_plain_at c.args.destination.now) c.args.self.now.all c.group_at.result c.count_in.result c.group_at.ensures c.count_in.ensures.some c.count_in.ensures.none
