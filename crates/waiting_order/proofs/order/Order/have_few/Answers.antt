use Rattle.waiting_order.proofs.Seeking.{few_of}
use Rattle.waiting_order.proofs.order.Order.have_few.Goals as goal

pub returns : goal.returns
returns c =
    let a = c.self.inside in
    rw (← c.self.view_is) (few_of a.waiters c.next-next.ensures.order c.self.invariant.slots)
