use Rattle.clients.proofs.ConnectionCalls.{lives}
use Rattle.clients.proofs.desk.a_connection_at_a_desk_lives_one_life.Goals as goal

pub returns : goal.returns
returns g c = λ old first link place others chain admits taken is sits. lives g.L.Outgoing.sent g.L.Outgoing.received old first link place others chain admits taken is sits
