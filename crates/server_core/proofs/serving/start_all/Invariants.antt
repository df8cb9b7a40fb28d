use Rattle.std.proofs.Common.{◌≡◌, ◌+◌, length}
use Rattle.std.specs.Arc.{arc_value}
use Rattle.server_core.specs.Serving.{IsStaffed}
use Rattle.server_core.proofs.serving.start_all.Given as goal

abbrev pub invariant-loop-worker : goal.invariant-loop-worker
invariant-loop-worker g l = record {
  left : length l.setups.items + l._worker ≡ length l.fn.setups.items;
  count : length l.workers.items ≡ length l.fn.workers.items + l._worker;
  staffed : IsStaffed (arc_value l.shared).ring l.seats.items l.setups.items l.workers.items;
}
