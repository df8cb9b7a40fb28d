use Rattle.std.proofs.Common.{◌≡◌, arith, sym, subst, List}
use Rattle.claim_core.specs.Seats.{SessionSeatValue}
use Rattle.flush_core.specs.Flusher.{Flushed}
use Rattle.engine_core.specs.Hubs.{AreNew, IsFirst}
use Rattle.engine_core.proofs.hub.Hub.of.Goals as goal

pub invariant_of-result : goal.invariant_of-result
invariant_of-result g c =
    let Seats : List SessionSeatValue → Type 0 = λ l. AreNew c.args.ring c.args.base l in
    ((subst Seats (sym c.from_vec.ensures.items) c.requires.seats, λ f e. let First : Flushed g.row.D.Denot → Type 0 = λ x. IsFirst c.args.ring c.args.base x in let same : c.args.flusher ≡ f = cc in subst First same c.requires.flusher), omega (arith, c.from_vec.ensures.capacity, c.requires.count))
