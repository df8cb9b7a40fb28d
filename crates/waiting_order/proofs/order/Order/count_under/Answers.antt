use Rattle.waiting_order.proofs.Keeping.{counted_by}
use Rattle.broker_state.specs.Operations.{uses}
use Rattle.waiting_order.proofs.order.Order.count_under.Goals as goal

pub returns : goal.returns
returns c =
    counted_by (uses c.args.name.now) c.args.self.now.all c.group_under.result c.count_in.result c.group_under.ensures c.count_in.ensures.some c.count_in.ensures.none
