use Rattle.std.proofs.Common.{◌≡◌, arith, subst, sym}
use Rattle.flush_core.specs.FlusherFields.{flushed_of}
use Rattle.flush_core.specs.Flusher.{Flushed}
use Rattle.flush_core.proofs.BacklogCounts.{counts_none}
use Rattle.flush_core.proofs.FlusherKeeps.{tells}
use Rattle.flush_core.proofs.flusher.Flusher.count_afresh.Goals as goal

pub invariant_of-self : goal.invariant_of-self
invariant_of-self g c =
    let it = c.self.inside in
    let f = flushed_of it in
    let kept = c.self.invariant.0 in
    let executed : it.executed ≡ it.stored = subst (λ (f : Flushed g.row.D.Denot). f.executed ≡ f.stored) (sym c.self.view_is) c.requires.done.1 in (
      tells g.D.Disk.honest g.D.Disk.images f (record { won = it.won; since = it.since; counted = it.stored; block = it.block }) kept,
      c.self.invariant.1,
      c.self.invariant.2,
      c.self.invariant.3,
      λ w. counts_none it.opening.value.state it.seat it.stored it.executed (omega (arith, kept.begun, kept.marked, kept.executed)) executed,
    )
