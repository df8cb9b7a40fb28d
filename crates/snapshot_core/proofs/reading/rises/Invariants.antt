use Rattle.std.specs.List.{AllAdjacentBelow}
use Rattle.snapshot_core.proofs.RisingLists.{IsUnder}
use Rattle.snapshot_core.proofs.reading.rises.Given as goal

abbrev pub invariant-loop-place : goal.invariant-loop-place
invariant-loop-place g l = AllAdjacentBelow (IsUnder g.K.Ord.cmp) l.items l.place
