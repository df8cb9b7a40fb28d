use Rattle.client_core.specs.Talks.{IsOfPeer}
use Rattle.client_socket.proofs.calls.socket_at.Given as goal

abbrev pub invariant-loop-place : goal.invariant-loop-place
invariant-loop-place g l = IsOfPeer l.cause
