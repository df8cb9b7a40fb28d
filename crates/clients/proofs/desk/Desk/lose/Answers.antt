use Rattle.std.proofs.Common.{ap, arith, length, refl}
use Rattle.clients.specs.Connections.{with_lost}
use Rattle.clients.specs.Desks.{DeskValue}
use Rattle.clients.proofs.FootprintSums.{as_changed, counted_same}
use Rattle.clients.proofs.DeskPlaces.{changes, changes_none, same_progress, touches, touches_none, unmoved}
use Rattle.clients.proofs.desk.Desk.lose.Goals as goal

pub invariant_of-self : goal.invariant_of-self
invariant_of-self g c = (
  unmoved c.self.inside.before.value c.self.inside.seat c.self.inside.places.items c.args.at c.index_mut.result.now c.lose_at.new.place
      (omega (arith, c.if-at-len.true, c.len.ensures)) c.index_mut.ensures.value (same_progress g.L.Outgoing.sent g.L.Outgoing.received c.index_mut.result.now c.lose_at.new.place c.lose_at.ensures.unserved) c.self.invariant.0,
  counted_same c.self.inside.limit c.self.inside.counted c.self.inside.places.items c.args.at c.index_mut.result.now c.lose_at.new.place (omega (arith, c.if-at-len.true, c.len.ensures)) c.index_mut.ensures.value (as_changed with_lost (λ x. refl) (λ x. refl) c.index_mut.result.now c.lose_at.new.place c.lose_at.ensures.is) c.self.invariant.1,
)

pub returns-then-at-len-clause-touches : goal.returns-then-at-len-clause-touches
returns-then-at-len-clause-touches g c =
    touches g.L.Outgoing.sent g.L.Outgoing.received c.args.self.now c.self.inside.limit c.self.inside.before.value c.self.inside.seat c.self.inside.places.items c.args.at c.index_mut.result.now c.lose_at.new.place
    c.self.view_is (omega (arith, c.if-at-len.true, c.len.ensures)) c.index_mut.ensures.value c.lose_at.ensures.unserved

pub returns-else-at-len-clause-touches : goal.returns-else-at-len-clause-touches
returns-else-at-len-clause-touches g c = touches_none g.L.Outgoing.sent g.L.Outgoing.received _ _ _ refl

pub returns-then-at-len-clause-loses : goal.returns-then-at-len-clause-loses
returns-then-at-len-clause-loses g c =
    changes with_lost c.args.self.now c.self.inside.limit c.self.inside.before.value c.self.inside.seat c.self.inside.places.items c.args.at c.index_mut.result.now c.lose_at.new.place
    c.self.view_is (omega (arith, c.if-at-len.true, c.len.ensures)) c.index_mut.ensures.value c.lose_at.ensures.is

pub returns-else-at-len-clause-loses : goal.returns-else-at-len-clause-loses
returns-else-at-len-clause-loses g c = changes_none with_lost _ _ _ refl (omega (arith, c.if-at-len.false, c.len.ensures, ap (λ (d : DeskValue _ _). length d.places) c.self.view_is))
