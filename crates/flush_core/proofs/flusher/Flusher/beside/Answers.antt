use Rattle.std.proofs.Common.{sym, subst}
use Rattle.claim_core.specs.Seats.{FlushSeatValue}
use Rattle.flush_core.specs.FlusherFields.{Keeps}
use Rattle.flush_core.proofs.flusher.Flusher.beside.Goals as goal

pub invariant_of-self : goal.invariant_of-self
invariant_of-self g c = let a = c.self.inside in subst (λ (seat : FlushSeatValue). Keeps g.W.Width.COMMANDS g.W.Width.BYTES (record a { seat = seat })) (sym c.beside.ensures.flush) c.self.invariant
