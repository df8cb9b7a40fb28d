use Rattle.std.proofs.Common.{◌≡◌, ◌-◌, flat_map, length, take}
use Rattle.area_core.proofs.Batches.{entry_record}
use Rattle.flush_core.proofs.batch.bytes_without.Given as goal

abbrev pub invariant-loop-entry : goal.invariant-loop-entry
invariant-loop-entry g l = l.left ≡ l.bytes - length (flat_map entry_record (take l.entry-index l.batch))
