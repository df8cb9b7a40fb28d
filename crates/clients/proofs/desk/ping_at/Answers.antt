use Rattle.std.proofs.Common.{◌∙◌, refl, rules}
use Rattle.clients.proofs.ClientProgress.{heeds_quietly}
use Rattle.clients.proofs.ConnectionLife.{same_stage}
use Rattle.clients.proofs.DeskPlaces.{pinged_some, unserved_some}
use Rattle.clients.proofs.desk.ping_at.Goals as goal

pub returns-in-Some-clause-pinged : goal.returns-in-Some-clause-pinged
returns-in-Some-clause-pinged g c = pinged_some g.L.Link.pings g.L.Outgoing.refuses g.L.Outgoing.flushes _ c.in-Some.seated _ c.in-Some.is (search rules)

pub returns-in-Some-clause-unserved : goal.returns-in-Some-clause-unserved
returns-in-Some-clause-unserved g c = unserved_some g.L.Outgoing.sent g.L.Outgoing.received _ c.in-Some.seated _ c.in-Some.is
    record { progress = refl; waiting = refl; opening = refl; outbox = refl; kept = refl; sent = search rules }
    (heeds_quietly g.L.Outgoing.received _ _ _ _ (c.flush.ensures.unread ∙ c.ping.ensures.unread) (same_stage _ _ refl) refl)
