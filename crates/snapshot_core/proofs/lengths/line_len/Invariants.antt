use Rattle.std.proofs.Common.{◌≡◌, ◌+◌, length, take}
use Rattle.std.specs.List.{flat_map}
use Rattle.snapshot_core.specs.Lengths.{counted_in_eight}
use Rattle.snapshot_core.specs.Snapshots.{message}
use Rattle.snapshot_core.proofs.lengths.line_len.Given as goal

abbrev pub invariant-loop-at : goal.invariant-loop-at
invariant-loop-at l = l.total ≡ counted_in_eight (4 + length (flat_map message (take l.at l.line)))
