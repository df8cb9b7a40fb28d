use Rattle.std.proofs.Common.{◌≡◌, ◌≤◌, ℕ, drop, length}
use Rattle.std.specs.List.Sorted.{IsStrictlySortedBy}
use Rattle.std.specs.Map.{keys_of}
use Rattle.std.specs.Ordering.{nat_cmp}
use Rattle.waiting_order.proofs.Listing.{at_number, key_at}
use Rattle.waiting_order.proofs.waiters.Waiters.by_ticket.Given as goal

abbrev pub invariant-loop-left : goal.invariant-loop-left
invariant-loop-left l = record {
  has : (t : ℕ) → at_number t l.keys.entries ≡ key_at t (drop l.left l.self-inside.all.entries);
  sorted : IsStrictlySortedBy nat_cmp (keys_of l.keys.entries);
  within : l.left ≤ length l.self-inside.all.entries;
}

abbrev pub decreases-loop-left : goal.decreases-loop-left
decreases-loop-left l = l.left
