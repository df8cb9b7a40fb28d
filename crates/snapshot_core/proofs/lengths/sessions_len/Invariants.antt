use Rattle.std.proofs.Common.{◌≡◌, ◌<◌, ◌^◌, ◌+◌, length}
use Rattle.std.specs.List.{flat_map}
use Rattle.snapshot_core.specs.Lengths.{counted_in_eight}
use Rattle.snapshot_core.specs.Snapshots.{listed, session}
use Rattle.snapshot_core.proofs.lengths.sessions_len.Given as goal

abbrev pub invariant-loop-number : goal.invariant-loop-number
invariant-loop-number l = record {
  left : counted_in_eight (l.total + length (flat_map session l.number-iterator)) ≡ counted_in_eight (length (listed session l.sessions.entries));
  fits : l.total < 2 ^ 64;
}
