use Rattle.clients.proofs.LineKeeps.{first_is_client}
use Rattle.clients.proofs.lines.ClientLine.first.Goals as goal

pub returns-clause-client : goal.returns-clause-client
returns-clause-client c = first_is_client _ _ _ _ c.self.invariant c.front_of.ensures
