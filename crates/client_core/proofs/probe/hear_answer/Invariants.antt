use Rattle.std.proofs.Common.{◌≡◌, false}
use Rattle.client_core.proofs.Turns.{SoFar}
use Rattle.client_core.proofs.probe.hear_answer.Given as goal

abbrev pub invariant-loop-piece : goal.invariant-loop-piece
invariant-loop-piece g l = record {
  unfailed : l.reader.failed ≡ false;
  heard : SoFar (g.P.Peer.talk l.fn.peer) (g.P.Peer.talk l.peer) l.reader.rest;
}
