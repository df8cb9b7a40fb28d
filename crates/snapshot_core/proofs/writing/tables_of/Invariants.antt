use Rattle.std.proofs.Common.{◌≡◌, ◌++◌, map}
use Rattle.snapshot_core.specs.Reading.{lines_of}
use Rattle.snapshot_core.proofs.SnapshotNames.{bound_in}
use Rattle.snapshot_core.proofs.writing.tables_of.Given as goal

abbrev pub invariant-loop-name : goal.invariant-loop-name
invariant-loop-name l = record {
  topics : l.topics.entries ++ map bound_in l.name-iterator.rest.items ≡ map bound_in l.fn.names.items;
  lines : l.lines.entries ++ lines_of l.name-iterator.rest.items ≡ lines_of l.fn.names.items;
}
