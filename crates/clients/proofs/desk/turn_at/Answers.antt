use Rattle.std.proofs.Common.{ap, refl, ◌∙◌}
use Rattle.clients.specs.Connections.{connection_of, with_room}
use Rattle.clients.specs.Places.{counted_at}
use Rattle.clients.proofs.FootprintSums.{room_left, served_at}
use Rattle.clients.proofs.TurnReports.{reports_at}
use Rattle.clients.proofs.desk.turn_at.Goals as goal

pub returns-in-Some-clause-served : goal.returns-in-Some-clause-served
returns-in-Some-clause-served g c =
    let its = ap counted_at c.in-Some.is in
    served_at g.L.Outgoing.sent g.L.Outgoing.received _ _ c.in-Some.seated _ _ _ _ _ c.in-Some.is
    (ap (λ x. record (connection_of c.in-Some.seated.client) { footprint = x }) c.allow.ensures ∙ ap (λ room. with_room room (connection_of c.in-Some.seated.client)) (room_left c.args.limit c.args.counted.now c.counted-before.result _ _ c.counted-before.ensures.value its c.requires.keeps.0 c.requires.keeps.1))
    (refl, refl, refl, refl) c.turn-turned.ensures.goes c.turn-turned.ensures.answers

pub returns-in-Some-clause-reports : goal.returns-in-Some-clause-reports
returns-in-Some-clause-reports g c =
    reports_at g.L.Outgoing.sent g.L.Outgoing.is_held_up _ _ c.in-Some.seated _ _ _ _ c.in-Some.is (ap (λ x. record (connection_of c.in-Some.seated.client) { footprint = x }) c.allow.ensures) (refl, refl, refl, refl) c.turn-turned.ensures.reports
