use Rattle.std.proofs.Common.{◌≡◌, take}
use Rattle.std.specs.List.{flat_map}
use Rattle.disk_core.specs.Epochs.{held_at}
use Rattle.disk_core.proofs.memory.Epoch.of.Given as goal

abbrev pub invariant-loop-span : goal.invariant-loop-span
invariant-loop-span l = l.parts.items ≡ flat_map (held_at l.held) (take l.span-index l.spans)
