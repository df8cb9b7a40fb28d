use Rattle.std.proofs.Common.{◌≡◌, ◌++◌, length, map, drop}
use Rattle.waiting_order.specs.declared.waiters.Key.{Key}
use Rattle.waiting_order.specs.declared.waiters.Waiter.{Waiter}
use Rattle.waiting_order.specs.Waiting.{subs_of}
use Rattle.waiting_order.proofs.order.Order.in_order.Given as goal

abbrev pub invariant-loop-key : goal.invariant-loop-key
invariant-loop-key l = record {
  keys : l.key-iterator.rest.items ≡ map (λ (w : Key × Waiter). w.0) (drop (length l.subs.items) l.self.all);
  joined : map (λ sub. sub.now) l.subs.items ++ subs_of (drop (length l.subs.items) l.self.all) ≡ subs_of l.self.all;
}
