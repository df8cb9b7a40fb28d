use Rattle.std.proofs.Common.{arith, ap, length, refl, sym, subst, ◌∙◌, ◌≡◌, List, []}
use Rattle.command_core.specs.Outs.{OutValue}
use Rattle.flush_core.specs.FlusherFields.{flushed_of}
use Rattle.flush_core.specs.Flusher.{IsFlusher}
use Rattle.flush_core.proofs.FlusherKeeps.{hands_out, held_marked}
use Rattle.flush_core.proofs.flusher.Flusher.take_left.Goals as goal

pub invariant_of-self : goal.invariant_of-self
invariant_of-self g c =
    let it = c.self.inside in
    let f = flushed_of it in
    let none : c.replace.new.dest.items ≡ [] = (λ i. (c.replace.ensures.after i).items) ∙ c.new.ensures.items in (
      subst (λ (l : List OutValue). IsFlusher g.D.Disk.honest g.D.Disk.images (record f { left = l })) (sym none) (hands_out g.D.Disk.honest g.D.Disk.images f c.self.invariant.0),
      λ w. held_marked it.seat it.seat it.seat.published it.stored it.executed _ it.batch.items it.done.items it.bytes _ _ _ _ _ _ refl
          (λ some. omega (arith, some, ap (λ (l : List OutValue). length l) none)) (c.self.invariant.1 w),
      c.self.invariant.2,
      c.self.invariant.3,
      c.self.invariant.4,
    )
