use Rattle.std.proofs.Common.{◌≡◌, ◌<◌, ◌^◌, ◌+◌, length}
use Rattle.std.specs.List.{flat_map}
use Rattle.snapshot_core.specs.Lengths.{counted_in_eight}
use Rattle.snapshot_core.specs.Snapshots.{listed, queue}
use Rattle.snapshot_core.proofs.lengths.queues_len.Given as goal

abbrev pub invariant-loop-queue : goal.invariant-loop-queue
invariant-loop-queue l = record {
  left : counted_in_eight (l.total + length (flat_map queue l.queue-iterator)) ≡ counted_in_eight (length (listed queue l.queues.entries));
  fits : l.total < 2 ^ 64;
}
