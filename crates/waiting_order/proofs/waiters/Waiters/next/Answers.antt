use Rattle.waiting_order.proofs.Timed.{ordered}
use Rattle.waiting_order.proofs.waiters.Waiters.next.Goals as goal

pub returns-clause-order : goal.returns-clause-order
returns-clause-order c =
    let a = c.self.inside in
    rw (← c.self.view_is) (ordered a.next a.all.entries c.self.invariant.timed)
