use Rattle.std.proofs.Common.{◌≡◌, ◌++◌, map}
use Rattle.waiting_order.specs.declared.waiters.Key.{Key}
use Rattle.waiting_order.specs.declared.waiters.Waiter.{Waiter}
use Rattle.waiting_order.specs.Waiting.{subs_of}
use Rattle.waiting_order.proofs.order.Order.take_all.Given as goal

abbrev pub invariant-loop-key : goal.invariant-loop-key
invariant-loop-key l = record {
  keys : l.key-iterator.rest.items ≡ map (λ (w : Key × Waiter). w.0) l.self.all;
  next : l.self.next ≡ l.fn.self.next;
  joined : l.subs.items ++ subs_of l.self.all ≡ subs_of l.fn.self.all;
}
