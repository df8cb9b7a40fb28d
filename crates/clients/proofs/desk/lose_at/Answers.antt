use Rattle.std.proofs.Common.{ap, refl}
use Rattle.clients.specs.Connections.{connection_of, with_lost}
use Rattle.clients.proofs.ClientProgress.{heeds_quietly}
use Rattle.clients.proofs.ConnectionLife.{loses, waits_still}
use Rattle.clients.proofs.DeskPlaces.{changed_some, unserved_some}
use Rattle.clients.proofs.desk.lose_at.Goals as goal

pub returns-in-Some-clause-is : goal.returns-in-Some-clause-is
returns-in-Some-clause-is g c = changed_some with_lost _ c.in-Some.seated _ c.in-Some.is record { connection = ap (λ x. record (connection_of c.in-Some.seated.client) { stage = x }) c.lost-seated.ensures; waiting = refl; opening = refl; outbox = refl; kept = refl; link = refl }

pub returns-in-Some-clause-unserved : goal.returns-in-Some-clause-unserved
returns-in-Some-clause-unserved g c = unserved_some g.L.Outgoing.sent g.L.Outgoing.received _ c.in-Some.seated _ c.in-Some.is
    record { progress = refl; waiting = refl; opening = refl; outbox = refl; kept = refl; sent = refl }
    (heeds_quietly g.L.Outgoing.received _ _ _ _ refl (loses (connection_of c.in-Some.seated.client) _ (ap (λ x. record (connection_of c.in-Some.seated.client) { stage = x }) c.lost-seated.ensures)) refl)

pub invariant_of-seated-clause-next : goal.invariant_of-seated-clause-next
invariant_of-seated-clause-next g c = waits_still (connection_of c.in-Some.seated.client) _ _ _ (loses (connection_of c.in-Some.seated.client) _ (ap (λ x. record (connection_of c.in-Some.seated.client) { stage = x }) c.lost-seated.ensures)).restaged refl c.in-Some.seated.client.next
