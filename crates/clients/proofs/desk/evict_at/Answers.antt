use Rattle.std.proofs.Common.{refl}
use Rattle.clients.specs.Connections.{evicted}
use Rattle.clients.proofs.DeskPlaces.{changed_some}
use Rattle.clients.proofs.desk.evict_at.Goals as goal

pub returns-in-Some : goal.returns-in-Some
returns-in-Some g c = changed_some evicted _ c.in-Some.seated _ c.in-Some.is record { connection = c.evict.ensures.evicted; waiting = c.evict.ensures.same.0; opening = c.evict.ensures.same.1; outbox = c.evict.ensures.same.2; kept = c.evict.ensures.same.3; link = refl }
