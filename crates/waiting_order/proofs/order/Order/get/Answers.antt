use Rattle.std.proofs.Common.{ap}
use Rattle.waiting_order.specs.Keys.{key_eq}
use Rattle.waiting_order.specs.declared.waiters.Waiter.{Waiter}
use Rattle.waiting_order.proofs.Seeking.{same_there}
use Rattle.waiting_order.proofs.Timed.{clash, key_itself}
use Rattle.waiting_order.proofs.order.Order.get.Goals as goal

pub unreachable-requires : goal.unreachable-requires
unreachable-requires c =
    let r = rw (← c.self.view_is) at c.requires in
    clash (key_eq c.args.key c.args.key) (key_itself c.args.key) (c.in_default.ensures.none r.0 (c.args.key, r.1) r.2)

pub returns-clause-sub : goal.returns-clause-sub
returns-clause-sub c =
    let it = c.in-Some.ensures.some in
    rw (← c.self.view_is) (λ at s is. ap (λ (x : Waiter). x.sub) (same_there c.self.inside.waiters c.get.ensures.order c.args.key it.0 at c.in-Some.waiter.now s it.1 is))
