use Rattle.std.proofs.Common.{◌≡◌, flat_map, length, take}
use Rattle.std.specs.List.{AllByRecursion}
use Rattle.area_core.proofs.Batches.{EntryHasRecord, entry_record}
use Rattle.area_core.proofs.batch.records_len.Given as goal

abbrev pub invariant-loop-entry : goal.invariant-loop-entry
invariant-loop-entry g l = record {
  total : l.total ≡ length (flat_map entry_record (take l.entry-index l.batch));
  form : AllByRecursion EntryHasRecord (take l.entry-index l.batch);
}
