use Rattle.std.proofs.Common.{◌≡◌, take}
use Rattle.std.specs.List.{AllByRecursion}
use Rattle.area_core.specs.Areas.{HasRecord, records}
use Rattle.world_core.proofs.recovering.records_of.Given as goal

abbrev pub invariant-loop-command : goal.invariant-loop-command
invariant-loop-command l = record {
  bytes : l.out.items ≡ records (take l.command-index l.commands);
  each : AllByRecursion HasRecord (take l.command-index l.commands);
}
