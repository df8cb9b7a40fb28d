use Rattle.client_core.proofs.Leaving.{LateSoFar}
use Rattle.client_core.proofs.listening.hear_receipt.Given as goal

abbrev pub invariant-loop-piece : goal.invariant-loop-piece
invariant-loop-piece g l = LateSoFar l.fn.reader.rest (g.P.Peer.talk l.fn.peer) (g.P.Peer.talk l.peer) l.reader.rest
