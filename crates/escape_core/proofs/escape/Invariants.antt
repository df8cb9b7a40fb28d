use Rattle.std.proofs.Common.{◌≡◌, take}
use Rattle.escape_core.specs.Escapes.{escaped}
use Rattle.escape_core.proofs.escape.Given as goal

abbrev pub invariant-loop-b : goal.invariant-loop-b
invariant-loop-b l = l.written.items ≡ escaped (take l.b-index l.text)
