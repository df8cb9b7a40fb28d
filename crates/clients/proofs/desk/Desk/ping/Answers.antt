use Rattle.std.proofs.Common.{ap, arith, length, refl}
use Rattle.clients.specs.Desks.{DeskValue}
use Rattle.clients.specs.Places.{PingedAt}
use Rattle.clients.proofs.FootprintSums.{as_unserved, counted_same}
use Rattle.clients.proofs.DeskPlaces.{at_place, pinged_none, same_progress, touches, touches_none, unmoved}
use Rattle.clients.proofs.desk.Desk.ping.Goals as goal

pub invariant_of-self : goal.invariant_of-self
invariant_of-self g c = (
  unmoved c.self.inside.before.value c.self.inside.seat c.self.inside.places.items c.args.at c.index_mut.result.now c.ping_at.new.place
      (omega (arith, c.if-at-len.true, c.len.ensures)) c.index_mut.ensures.value (same_progress g.L.Outgoing.sent g.L.Outgoing.received c.index_mut.result.now c.ping_at.new.place c.ping_at.ensures.unserved) c.self.invariant.0,
  counted_same c.self.inside.limit c.self.inside.counted c.self.inside.places.items c.args.at c.index_mut.result.now c.ping_at.new.place (omega (arith, c.if-at-len.true, c.len.ensures)) c.index_mut.ensures.value (as_unserved g.L.Outgoing.sent g.L.Outgoing.received c.index_mut.result.now c.ping_at.new.place c.ping_at.ensures.unserved) c.self.invariant.1,
)

pub returns-then-at-len-clause-touches : goal.returns-then-at-len-clause-touches
returns-then-at-len-clause-touches g c =
    touches g.L.Outgoing.sent g.L.Outgoing.received c.args.self.now c.self.inside.limit c.self.inside.before.value c.self.inside.seat c.self.inside.places.items c.args.at c.index_mut.result.now c.ping_at.new.place
    c.self.view_is (omega (arith, c.if-at-len.true, c.len.ensures)) c.index_mut.ensures.value c.ping_at.ensures.unserved

pub returns-else-at-len-clause-touches : goal.returns-else-at-len-clause-touches
returns-else-at-len-clause-touches g c = touches_none g.L.Outgoing.sent g.L.Outgoing.received _ _ _ refl

pub returns-then-at-len-clause-pinged : goal.returns-then-at-len-clause-pinged
returns-then-at-len-clause-pinged g c =
    at_place (PingedAt g.L.Link.pings g.L.Outgoing.refuses g.L.Outgoing.flushes) c.args.self.now c.self.inside.limit c.self.inside.before.value c.self.inside.seat c.self.inside.places.items c.args.at c.index_mut.result.now c.ping_at.new.place
    c.self.view_is (omega (arith, c.if-at-len.true, c.len.ensures)) c.index_mut.ensures.value c.ping_at.ensures.pinged

pub returns-else-at-len-clause-pinged : goal.returns-else-at-len-clause-pinged
returns-else-at-len-clause-pinged g c =
    pinged_none g.L.Link.pings g.L.Outgoing.refuses g.L.Outgoing.flushes c.args.self.now c.args.self.now c.args.at refl (omega (arith, c.if-at-len.false, c.len.ensures, ap (λ (d : DeskValue _ _). length d.places) c.self.view_is))
