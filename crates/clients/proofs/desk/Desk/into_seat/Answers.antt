use Rattle.std.proofs.Common.{subst}
use Rattle.clients.specs.Conversations.{Converse}
use Rattle.clients.specs.Desks.{DeskValue}
use Rattle.clients.proofs.DeskPlaces.{converses}
use Rattle.clients.proofs.desk.Desk.into_seat.Goals as goal

pub returns-clause-converse : goal.returns-clause-converse
returns-clause-converse g c = subst (λ (d : DeskValue _ _). Converse d.before.own c.self.inside.seat.own) c.self.view_is (converses _ _ _ c.self.invariant.0.speaks)
