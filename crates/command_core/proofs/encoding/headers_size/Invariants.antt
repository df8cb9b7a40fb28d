use Rattle.std.proofs.Common.{◌≡◌, ◌≤◌, ◌+◌, ◌*◌, take}
use Rattle.command_core.specs.PartSizes.{headers_size}
use Rattle.command_core.proofs.encoding.headers_size.Given as goal

abbrev pub invariant-loop-name : goal.invariant-loop-name
invariant-loop-name l = (l.size ≡ headers_size (take l.name-index l.headers)) × (l.size ≤ 2 + l.name-index * 16392)
