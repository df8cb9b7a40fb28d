use Rattle.std.proofs.Common.{IfErr, IfSome}
use Rattle.client_socket.specs.Inputs.{IsLineFault}
use Rattle.client_socket.proofs.lines.send_all.Given as goal

abbrev pub invariant-loop-turn : goal.invariant-loop-turn
invariant-loop-turn g l = IfSome l.over (λ ended. IfErr ended IsLineFault)
