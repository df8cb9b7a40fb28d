use Rattle.std.proofs.Common.{◌≡◌, flat_map, take}
use Rattle.area_core.proofs.Batches.{entry_record}
use Rattle.world_core.proofs.parts.records_of.Given as goal

abbrev pub invariant-loop-entry : goal.invariant-loop-entry
invariant-loop-entry l = l.out.items ≡ flat_map entry_record (take l.entry-index l.entries)
