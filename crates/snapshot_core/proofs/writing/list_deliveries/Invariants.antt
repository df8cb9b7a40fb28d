use Rattle.std.proofs.Common.{◌≡◌, ◌++◌, length, take}
use Rattle.std.specs.Int.{w32, to_be_bytes}
use Rattle.std.specs.List.{AllByRecursion, flat_map}
use Rattle.snapshot_core.specs.Snapshots.{IsDelivery, delivery}
use Rattle.snapshot_core.specs.Parts.{written}
use Rattle.snapshot_core.proofs.writing.list_deliveries.Given as goal

abbrev pub invariant-loop-number : goal.invariant-loop-number
invariant-loop-number l = record {
  put : written l.parts.items ≡ written l.fn.parts.items ++ (to_be_bytes w32 (length l.deliveries) ++ flat_map delivery (take l.number-index l.deliveries));
  form : AllByRecursion IsDelivery (take l.number-index l.deliveries);
}
