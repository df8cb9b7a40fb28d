use Rattle.std.proofs.Common.{◌≡◌, ◌≤◌}
use Rattle.waiting_order.proofs.Seeking.{total}
use Rattle.waiting_order.proofs.finding.count_of.Given as goal

abbrev pub invariant-loop-slot : goal.invariant-loop-slot
invariant-loop-slot l = record {
  counted : l.count ≡ total l.session l.slot l.waiters.all;
  few : l.count ≤ l.slot;
}
