use Rattle.std.specs.List.{AllAdjacentBelow}
use Rattle.snapshot_core.proofs.RisingLists.{IsUpTo}
use Rattle.snapshot_core.proofs.reading.is_rising.Given as goal

abbrev pub invariant-loop-place : goal.invariant-loop-place
invariant-loop-place l = AllAdjacentBelow IsUpTo l.messages l.place
