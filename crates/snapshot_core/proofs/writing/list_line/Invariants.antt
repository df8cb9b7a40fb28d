use Rattle.std.proofs.Common.{◌≡◌, ◌++◌, length, take}
use Rattle.std.specs.Int.{w32, to_be_bytes}
use Rattle.std.specs.List.{AllByRecursion, flat_map}
use Rattle.snapshot_core.specs.Snapshots.{IsMessage, message}
use Rattle.snapshot_core.specs.Parts.{written}
use Rattle.snapshot_core.proofs.writing.list_line.Given as goal

abbrev pub invariant-loop-at : goal.invariant-loop-at
invariant-loop-at l = record {
  put : written l.parts.items ≡ written l.fn.parts.items ++ (to_be_bytes w32 (length l.line) ++ flat_map message (take l.at l.line));
  form : AllByRecursion IsMessage (take l.at l.line);
}
