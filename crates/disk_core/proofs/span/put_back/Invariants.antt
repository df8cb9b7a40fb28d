use Rattle.std.proofs.Common.{◌≡◌, ◌++◌, take, drop}
use Rattle.disk_core.specs.Memory.{crashed}
use Rattle.disk_core.proofs.span.put_back.Given as goal

abbrev pub invariant-loop-i : goal.invariant-loop-i
invariant-loop-i l = take l.i l.bytes ++ crashed l.fill (drop l.i l.held) (drop l.i l.bytes) ≡ crashed l.fill l.held l.fn.bytes
