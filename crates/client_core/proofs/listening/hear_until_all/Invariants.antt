use Rattle.client_core.proofs.Showing.{ShownSoFar}
use Rattle.client_core.proofs.listening.hear_until_all.Given as goal

abbrev pub invariant-loop-piece : goal.invariant-loop-piece
invariant-loop-piece g l = ShownSoFar l.plan l.left (g.L.Peer.talk l.fn.peer) (g.L.Peer.talk l.peer) l.reader.rest
