use Rattle.std.proofs.Common.{◌≡◌, ◌<◌, ◌≤◌, false, ℕ}
use Rattle.waiting_order.specs.Keys.{key_of}
use Rattle.waiting_order.specs.LastSlots.{is_taken}
use Rattle.waiting_order.proofs.waiters.last_under.Given as goal

abbrev pub invariant-loop-left : goal.invariant-loop-left
invariant-loop-left l = record {
  within : l.left ≤ l.key.slot;
  free : (slot : ℕ) → l.left ≤ slot → slot < l.key.slot → is_taken l.all.entries (key_of l.key.session slot) ≡ false;
}

abbrev pub decreases-loop-left : goal.decreases-loop-left
decreases-loop-left l = l.left
