use Rattle.std.proofs.Common.{◌≡◌, ◌≢◌, ℕ}
use Rattle.waiting_order.specs.Directories.{KeepsPlaces, grouped, is_in}
use Rattle.waiting_order.proofs.Keeping.{put_first}
use Rattle.waiting_order.proofs.groups.put_among.Given as goal

abbrev pub invariant-loop-at : goal.invariant-loop-at
invariant-loop-at l = record {
  places : KeepsPlaces l.fn.waiters.all l.waiters.all;
  same : l.group.places ≡ l.fn.group.places;
  put : (handle : ℕ) → l.fn.group ≡ grouped handle l.fn.waiters.all → l.waiters ≡ record l.fn.waiters { all = put_first l.at (is_in handle) l.message l.fn.waiters.all };
  group : (handle : ℕ) → l.fn.group ≡ grouped handle l.fn.waiters.all → l.group ≡ grouped handle l.waiters.all;
  others : (handle other : ℕ) → l.fn.group ≡ grouped handle l.fn.waiters.all → other ≢ handle → grouped other l.waiters.all ≡ grouped other l.fn.waiters.all;
}
