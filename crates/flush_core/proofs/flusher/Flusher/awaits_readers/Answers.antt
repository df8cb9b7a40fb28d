use Rattle.std.proofs.Common.{subst, sym}
use Rattle.outbox_core.specs.Giving.{Kept}
use Rattle.flush_core.specs.FlusherFields.{flushed_of}
use Rattle.flush_core.specs.Flusher.{IsFlusher}
use Rattle.flush_core.proofs.flusher.Flusher.awaits_readers.Goals as goal

pub invariant_of-self : goal.invariant_of-self
invariant_of-self g c =
    let it = c.self.inside in
    let f = flushed_of it in (
      subst (λ (b : Kept). IsFlusher g.D.Disk.honest g.D.Disk.images (record f { boxes = b })) (sym c.are_waited_for.ensures) c.self.invariant.0,
      c.self.invariant.1,
      c.self.invariant.2,
      c.self.invariant.3,
      c.self.invariant.4,
    )
