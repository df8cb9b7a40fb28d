use Rattle.std.proofs.Common.{◌≡◌, ◌<◌, ◌^◌, ◌+◌, length}
use Rattle.std.specs.List.{flat_map}
use Rattle.snapshot_core.specs.Lengths.{counted_in_eight}
use Rattle.snapshot_core.specs.Snapshots.{durable, listed}
use Rattle.snapshot_core.proofs.lengths.durables_len.Given as goal

abbrev pub invariant-loop-name : goal.invariant-loop-name
invariant-loop-name l = record {
  left : counted_in_eight (l.total + length (flat_map (durable l.shared) l.name-iterator)) ≡ counted_in_eight (length (listed (durable l.shared) l.durables.entries));
  fits : l.total < 2 ^ 64;
}
