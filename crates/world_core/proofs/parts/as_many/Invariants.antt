use Rattle.std.proofs.Common.{◌≡◌, ◌+◌, drop}
use Rattle.area_core.specs.Areas.{commands}
use Rattle.world_core.specs.Calls.{as_many}
use Rattle.world_core.proofs.parts.as_many.Given as goal

abbrev pub invariant-loop-entry : goal.invariant-loop-entry
invariant-loop-entry l = record {
  count : l.count ≡ l.entry-index;
  rest : as_many l.room (commands l.entries) ≡ l.entry-index + as_many l.left (commands (drop l.entry-index l.entries));
}
