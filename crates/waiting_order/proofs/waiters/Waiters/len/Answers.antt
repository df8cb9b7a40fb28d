use Rattle.std.proofs.Common.{ℕ, arith}
use Rattle.broker_state.proofs.Weights.{ones}
use Rattle.waiting_order.specs.Waiting.{by_ticket}
use Rattle.waiting_order.proofs.Timed.{W, sum_in_order}
use Rattle.waiting_order.proofs.waiters.Waiters.len.Goals as goal

pub returns-clause-len : goal.returns-clause-len
returns-clause-len c =
    let a = c.self.inside in
    let one : W → ℕ = λ w. 1 in
    rw (← c.self.view_is) (omega (arith, c.len.ensures.len, ones (by_ticket a.next a.all.entries), ones a.all.entries, sum_in_order one a.next a.all.entries c.self.invariant.timed))
