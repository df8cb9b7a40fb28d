use Rattle.flush_core.specs.FlusherFields.{flushed_of}
use Rattle.flush_core.proofs.BacklogCounts.{counts_stopped}
use Rattle.flush_core.proofs.RingStops.{held, stops}
use Rattle.flush_core.proofs.flusher.Flusher.stop.Goals as goal

pub invariant_of-self : goal.invariant_of-self
invariant_of-self g c =
    let it = c.self.inside in
    let f = flushed_of it in (
      stops g.D.Disk.honest g.D.Disk.images f c.stop.new.seat c.stop.ensures c.self.invariant.0,
      λ w. held it.seat c.stop.new.seat _ _ _ _ _ _ _ _ _ c.stop.ensures (c.self.invariant.1 w),
      c.self.invariant.2,
      c.self.invariant.3,
      λ w. counts_stopped it.opening.value.state it.seat c.stop.new.seat _ _ _ c.stop.ensures (c.self.invariant.4 w),
    )
