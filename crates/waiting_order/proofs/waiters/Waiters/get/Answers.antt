use Rattle.waiting_order.proofs.Timed.{ordered, seen_none, seen_some}
use Rattle.waiting_order.proofs.waiters.Waiters.get.Goals as goal

pub returns-clause-some : goal.returns-clause-some
returns-clause-some c =
    let a = c.self.inside in
    rw (← c.self.view_is) (seen_some a.next a.all.entries c.self.invariant.timed c.args.key c.get.result c.get.ensures.value)

pub returns-clause-none : goal.returns-clause-none
returns-clause-none c =
    let a = c.self.inside in
    rw (← c.self.view_is) (seen_none a.next a.all.entries c.self.invariant.timed c.args.key c.get.result c.get.ensures.value)

pub returns-clause-order : goal.returns-clause-order
returns-clause-order c =
    let a = c.self.inside in
    rw (← c.self.view_is) (ordered a.next a.all.entries c.self.invariant.timed)
