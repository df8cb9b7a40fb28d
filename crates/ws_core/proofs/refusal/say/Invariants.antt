use Rattle.std.proofs.Common.{◌≤◌, length, take}
use Rattle.ws_core.specs.Handshakes.{WritesOn}
use Rattle.ws_core.proofs.refusal.say.Given as goal

abbrev pub invariant-loop-write : goal.invariant-loop-write
invariant-loop-write g l = (l.said ≤ length l.response) × WritesOn (g.S.Write.contents l.fn.stream) (g.S.Write.contents l.stream) (take l.fn.said l.response) (take l.said l.response)
