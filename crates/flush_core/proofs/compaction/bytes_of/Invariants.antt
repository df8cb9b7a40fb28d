use Rattle.std.proofs.Common.{◌≡◌, flat_map, length, min, take}
use Rattle.area_core.proofs.Batches.{entry_record}
use Rattle.flush_core.specs.Backlogs.{most_counted}
use Rattle.flush_core.proofs.compaction.bytes_of.Given as goal

abbrev pub invariant-loop-entry : goal.invariant-loop-entry
invariant-loop-entry g l = l.bytes ≡ min (length (flat_map entry_record (take l.entry-index l.batch))) most_counted
