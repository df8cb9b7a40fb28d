use Rattle.std.proofs.Common.{◌≡◌, take}
use Rattle.escape_core.specs.Escapes.{escaped}
use Rattle.escape_core.proofs.is_plain.Given as goal

abbrev pub invariant-loop-b : goal.invariant-loop-b
invariant-loop-b l = escaped (take l.b-index l.text) ≡ take l.b-index l.text
