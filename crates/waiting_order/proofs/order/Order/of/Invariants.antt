use Rattle.std.proofs.Common.{◌≡◌, ◌+◌, ◌++◌, length}
use Rattle.waiting_order.specs.Directories.{AreFound}
use Rattle.waiting_order.specs.Waiting.{subs_of}
use Rattle.waiting_order.proofs.order.Order.of.Given as goal

abbrev pub invariant-loop-sub : goal.invariant-loop-sub
invariant-loop-sub l = record {
  found : AreFound l.directory l.waiters.all;
  joined : subs_of l.waiters.all ++ l.sub-iterator.rest.items ≡ l.fn.subscriptions.items;
  number : l.waiters.next + length l.sub-iterator.rest.items ≡ length l.fn.subscriptions.items;
}
