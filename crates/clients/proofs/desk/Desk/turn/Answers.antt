use Rattle.std.proofs.Common.{arith, ap, subst}
use Rattle.std.specs.Prelude.{IsSome}
use Rattle.clients.specs.Desks.{DeskValue, TalkApart}
use Rattle.clients.proofs.FootprintSums.{counted_set, keeps_within, no_more_at}
use Rattle.clients.specs.Reports.{ReportsAt}
use Rattle.clients.proofs.DeskPlaces.{at_place, if_some, others, same_desk, sits_there, stepped, talk_apart, turns}
use Rattle.clients.proofs.desk.Desk.turn.Goals as goal

pub returns-then-at-len-clause-apart : goal.returns-then-at-len-clause-apart
returns-then-at-len-clause-apart g c = subst (λ (d : DeskValue _ _). TalkApart d) c.self.view_is (talk_apart _ _ _ _ _ c.self.invariant.0 c.self.invariant.1)

pub invariant_of-self : goal.invariant_of-self
invariant_of-self g c = (
  stepped c.self.inside.before.value c.self.inside.seat c.turn_at.new.seat c.self.inside.places.items c.args.at c.index_mut.result.now c.turn_at.new.place
      (omega (arith, c.if-at-len.false, c.len.ensures)) c.index_mut.ensures.value c.turn_at.ensures.continues c.self.invariant.0,
  counted_set c.self.inside.limit c.self.inside.counted c.turn_at.new.counted c.self.inside.places.items c.args.at c.index_mut.result.now c.turn_at.new.place
      (omega (arith, c.if-at-len.false, c.len.ensures)) c.index_mut.ensures.value c.turn_at.ensures.counts.0 c.turn_at.ensures.counts.1.1 c.turn_at.ensures.counts.1.2 c.self.invariant.1,
)

pub turn_at-requires-clause-keeps : goal.turn_at-requires-clause-keeps
turn_at-requires-clause-keeps g c =
    keeps_within c.self.inside.limit c.self.inside.counted c.self.inside.places.items c.args.at c.index_mut.result.now (omega (arith, c.if-at-len.false, c.len.ensures)) c.index_mut.ensures.value c.self.invariant.1

pub returns-clause-others : goal.returns-clause-others
returns-clause-others g c = others c.args.self.now.places c.self.inside.places.items c.args.at c.turn_at.new.place (ap (λ (d : DeskValue _ _). d.places) c.self.view_is)

pub returns-clause-turns : goal.returns-clause-turns
returns-clause-turns g c =
    if_some c.turn_at.result _ _
    (λ turned served. turns g.L.Outgoing.sent g.L.Outgoing.received c.args.self.now c.self.inside.limit c.self.inside.before.value c.self.inside.seat c.turn_at.new.seat c.self.inside.places.items c.args.at c.index_mut.result.now c.turn_at.new.place turned c.self.inside.counted
    c.self.view_is (omega (arith, c.if-at-len.false, c.len.ensures)) c.index_mut.ensures.value c.turn_at.ensures.continues served
    (no_more_at c.self.inside.limit c.self.inside.counted c.self.inside.places.items c.args.at c.index_mut.result.now (omega (arith, c.if-at-len.false, c.len.ensures)) c.index_mut.ensures.value c.self.invariant.1) c.self.invariant.1)
    c.turn_at.ensures.served

pub returns-clause-none : goal.returns-clause-none
returns-clause-none g c = λ none.
    let same = c.turn_at.ensures.none none in
    same_desk c.args.self.now c.self.inside.limit c.self.inside.before.value c.self.inside.seat c.turn_at.new.seat c.self.inside.places.items c.args.at c.index_mut.result.now c.turn_at.new.place
    c.self.view_is c.index_mut.ensures.value same.0 same.1

pub returns-clause-some : goal.returns-clause-some
returns-clause-some g c = λ some.
    c.turn_at.ensures.some (subst (λ o. IsSome o) (sits_there c.args.self.now c.self.inside.limit c.self.inside.before.value c.self.inside.seat c.self.inside.places.items c.args.at c.index_mut.result.now
    c.self.view_is (omega (arith, c.if-at-len.false, c.len.ensures)) c.index_mut.ensures.value) some)

pub returns-clause-apart : goal.returns-clause-apart
returns-clause-apart g c =
    talk_apart _ _ _ _ _ (stepped c.self.inside.before.value c.self.inside.seat c.turn_at.new.seat c.self.inside.places.items c.args.at c.index_mut.result.now c.turn_at.new.place
    (omega (arith, c.if-at-len.false, c.len.ensures)) c.index_mut.ensures.value c.turn_at.ensures.continues c.self.invariant.0)
    (counted_set c.self.inside.limit c.self.inside.counted c.turn_at.new.counted c.self.inside.places.items c.args.at c.index_mut.result.now c.turn_at.new.place
    (omega (arith, c.if-at-len.false, c.len.ensures)) c.index_mut.ensures.value c.turn_at.ensures.counts.0 c.turn_at.ensures.counts.1.1 c.turn_at.ensures.counts.1.2 c.self.invariant.1)

pub returns-clause-reports : goal.returns-clause-reports
returns-clause-reports g c =
    if_some c.turn_at.result _ _
    (λ turned so. at_place (ReportsAt g.L.Outgoing.sent g.L.Outgoing.is_held_up turned c.turn_at.new.seat) c.args.self.now c.self.inside.limit c.self.inside.before.value c.self.inside.seat c.self.inside.places.items c.args.at c.index_mut.result.now c.turn_at.new.place
    c.self.view_is (omega (arith, c.if-at-len.false, c.len.ensures)) c.index_mut.ensures.value so)
    c.turn_at.ensures.reports
