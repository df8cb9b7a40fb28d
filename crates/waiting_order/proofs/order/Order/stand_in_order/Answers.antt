use Rattle.waiting_order.proofs.Keeping.{groups_alike}
use Rattle.waiting_order.proofs.order.Order.stand_in_order.Goals as goal

pub returns-clause-groups : goal.returns-clause-groups
returns-clause-groups c =
    let a = c.self.inside in
    rw (← c.self.view_is) (groups_alike a.directory a.waiters.all c.self.invariant)
