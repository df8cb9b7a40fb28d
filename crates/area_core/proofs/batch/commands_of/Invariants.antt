use Rattle.std.proofs.Common.{◌≡◌, ◌++◌, length}
use Rattle.std.specs.List.{AllByRecursion}
use Rattle.area_core.specs.Areas.{HasRecord, records}
use Rattle.area_core.proofs.batch.commands_of.Given as goal

abbrev pub invariant-loop-rest : goal.invariant-loop-rest
invariant-loop-rest l = record {
  whole : l.bytes ≡ records l.commands.items ++ l.rest;
  each : AllByRecursion HasRecord l.commands.items;
}

abbrev pub decreases-loop-rest : goal.decreases-loop-rest
decreases-loop-rest l = length l.rest
