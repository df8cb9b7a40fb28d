use Rattle.std.proofs.Common.{◌≡◌, ◌<◌, ◌≤◌, ◌-◌, ℕ, Some, length, slice_get}
use Rattle.waiting_order.specs.declared.groups.Place.{Place}
use Rattle.waiting_order.proofs.groups.Places.search.Given as goal

abbrev pub invariant-loop-low : goal.invariant-loop-low
invariant-loop-low l = record {
  order : l.low ≤ l.high;
  within : l.high ≤ length l.self-inside.all.items;
  under : (i : ℕ) (p : Place) → slice_get l.self-inside.all.items i ≡ Some p → i < l.low → p.ticket < l.ticket;
  over : (i : ℕ) (p : Place) → slice_get l.self-inside.all.items i ≡ Some p → l.high ≤ i → l.ticket ≤ p.ticket;
}

abbrev pub decreases-loop-low : goal.decreases-loop-low
decreases-loop-low l = l.high - l.low
