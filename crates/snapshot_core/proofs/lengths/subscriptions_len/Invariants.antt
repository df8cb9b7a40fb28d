use Rattle.std.proofs.Common.{◌≡◌, ◌+◌, length, take}
use Rattle.std.specs.List.{flat_map}
use Rattle.waiting_order.specs.Waiting.{subs_of}
use Rattle.snapshot_core.specs.Lengths.{counted_in_eight}
use Rattle.snapshot_core.specs.Snapshots.{subscription}
use Rattle.snapshot_core.proofs.lengths.subscriptions_len.Given as goal

abbrev pub invariant-loop-at : goal.invariant-loop-at
invariant-loop-at l = l.total ≡ counted_in_eight (4 + length (flat_map subscription (take l.at (subs_of l.subs))))
