use Rattle.std.proofs.Common.{◌≡◌, ◌++◌, ℕ, length, map}
use Rattle.waiting_order.specs.declared.waiters.Key.{Key}
use Rattle.waiting_order.specs.declared.waiters.Waiter.{Waiter}
use Rattle.waiting_order.proofs.waiters.Waiters.in_order.Given as goal

abbrev pub invariant-loop-ticket : goal.invariant-loop-ticket
invariant-loop-ticket l = l.keys.items ++ map (λ (e : ℕ × Key). e.1) l.by_ticket.entries ≡ map (λ (w : Key × Waiter). w.0) l.fn.self.all

abbrev pub decreases-loop-ticket : goal.decreases-loop-ticket
decreases-loop-ticket l = length l.by_ticket.entries
