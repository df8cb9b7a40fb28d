use Rattle.ws_core.specs.Handshakes.{ReadsOn}
use Rattle.ws_core.proofs.handshake.hear_head.Given as goal

abbrev pub invariant-loop-read : goal.invariant-loop-read
invariant-loop-read g l = ReadsOn (g.S.Read.remaining l.fn.stream) (g.S.Read.remaining l.stream) l.fn.head.items l.head.items
