use Rattle.std.proofs.Common.{subst}
use Rattle.clients.specs.Desks.{DeskValue, TalkApart}
use Rattle.clients.proofs.DeskPlaces.{talk_apart}
use Rattle.clients.proofs.desk.Desk.len.Goals as goal

pub returns-clause-apart : goal.returns-clause-apart
returns-clause-apart g c = subst (λ (d : DeskValue _ _). TalkApart d) c.self.view_is (talk_apart _ _ _ _ _ c.self.invariant.0 c.self.invariant.1)
