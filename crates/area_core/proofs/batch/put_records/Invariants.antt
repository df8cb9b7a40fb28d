use Rattle.std.proofs.Common.{◌≡◌, ◌++◌, [], flat_map, take}
use Rattle.area_core.proofs.Batches.{entry_record}
use Rattle.area_core.proofs.batch.put_records.Given as goal

abbrev pub invariant-loop-entry : goal.invariant-loop-entry
invariant-loop-entry g l = l.out.items ≡ l.fn.out.items ++ ([] ++ flat_map entry_record (take l.entry-index l.batch))
