use Rattle.std.proofs.Common.{ℕ, subst, sym}
use Rattle.waiting_order.specs.LastSlots.{IsReach}
use Rattle.waiting_order.specs.Waiting.{by_ticket}
use Rattle.waiting_order.proofs.LastSlots.{reached}
use Rattle.waiting_order.proofs.Timed.{ordered}
use Rattle.waiting_order.proofs.waiters.Waiters.reach.Goals as goal

pub returns-clause-reach : goal.returns-clause-reach
returns-clause-reach c =
    let a = c.self.inside in
    rw (← c.self.view_is) (subst (λ (n : ℕ). IsReach (by_ticket a.next a.all.entries) c.args.session n) (sym c.reach.ensures.reach) (reached a.next a.lasts a.all.entries c.self.invariant.timed c.self.invariant.lasts c.args.session))

pub returns-clause-order : goal.returns-clause-order
returns-clause-order c =
    let a = c.self.inside in
    rw (← c.self.view_is) (ordered a.next a.all.entries c.self.invariant.timed)
