use Rattle.std.proofs.Common.{◌≡◌, All, subst}
use Rattle.claim_core.specs.Seats.{SessionSeatValue}
use Rattle.engine_core.specs.Hubs.{HubValue, hub}
use Rattle.engine_core.proofs.Shown.{at_hub}
use Rattle.engine_core.proofs.hub.Hub.into_seats.Goals as goal

pub returns-clause-seated : goal.returns-clause-seated
returns-clause-seated g c =
    subst (λ (h : HubValue g.row.D.Denot). All (λ (s : SessionSeatValue). s.ring ≡ h.ring) h.seats) c.self.view_is
    (at_hub (hub c.self.inside.ring c.self.inside.base c.self.inside.seats.items c.self.inside.flusher) c.self.invariant.0)
