use Rattle.std.proofs.Common.{◌≡◌, ◌+◌, length}
use Rattle.area_core.specs.Areas.{commands}
use Rattle.flush_core.specs.Sessions.{boxes_after}
use Rattle.flush_core.proofs.flusher.keep_boxes.Given as goal

abbrev pub invariant-loop-entry : goal.invariant-loop-entry
invariant-loop-entry g l = record {
  boxes : l.boxes ≡ boxes_after l.fn.first l.fn.boxes l.yielded;
  number : l.number ≡ l.fn.first + length l.yielded;
  kept : l.kept.items ≡ commands l.yielded;
}
