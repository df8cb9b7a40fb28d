use Rattle.std.proofs.Common.{ap, arith, length, refl}
use Rattle.clients.specs.Connections.{evicted}
use Rattle.clients.specs.Desks.{DeskValue}
use Rattle.clients.proofs.FootprintSums.{as_changed, counted_same}
use Rattle.clients.proofs.DeskPlaces.{changed_progress, changes, changes_none, unmoved}
use Rattle.clients.proofs.desk.Desk.evict.Goals as goal

pub invariant_of-self : goal.invariant_of-self
invariant_of-self g c = (
  unmoved c.self.inside.before.value c.self.inside.seat c.self.inside.places.items c.args.at c.index_mut.result.now c.evict_at.new.place
      (omega (arith, c.if-at-len.true, c.len.ensures)) c.index_mut.ensures.value (changed_progress evicted (λ x. refl) c.index_mut.result.now c.evict_at.new.place c.evict_at.ensures) c.self.invariant.0,
  counted_same c.self.inside.limit c.self.inside.counted c.self.inside.places.items c.args.at c.index_mut.result.now c.evict_at.new.place (omega (arith, c.if-at-len.true, c.len.ensures)) c.index_mut.ensures.value (as_changed evicted (λ x. refl) (λ x. refl) c.index_mut.result.now c.evict_at.new.place c.evict_at.ensures) c.self.invariant.1,
)

pub returns-then-at-len : goal.returns-then-at-len
returns-then-at-len g c =
    changes evicted c.args.self.now c.self.inside.limit c.self.inside.before.value c.self.inside.seat c.self.inside.places.items c.args.at c.index_mut.result.now c.evict_at.new.place
    c.self.view_is (omega (arith, c.if-at-len.true, c.len.ensures)) c.index_mut.ensures.value c.evict_at.ensures

pub returns-else-at-len : goal.returns-else-at-len
returns-else-at-len g c = changes_none evicted _ _ _ refl (omega (arith, c.if-at-len.false, c.len.ensures, ap (λ (d : DeskValue _ _). length d.places) c.self.view_is))
