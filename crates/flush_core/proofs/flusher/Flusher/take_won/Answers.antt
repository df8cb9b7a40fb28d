use Rattle.flush_core.specs.FlusherFields.{flushed_of}
use Rattle.flush_core.proofs.FlusherKeeps.{tells}
use Rattle.flush_core.proofs.flusher.Flusher.take_won.Goals as goal

pub invariant_of-self : goal.invariant_of-self
invariant_of-self g c =
    let it = c.self.inside in
    let f = flushed_of it in
    (tells g.D.Disk.honest g.D.Disk.images f (record { won = c.take.new.self; since = it.since; counted = it.counted_from; block = it.block }) c.self.invariant.0, c.self.invariant.1, c.self.invariant.2, c.self.invariant.3, c.self.invariant.4)
