use Rattle.clients.proofs.ClientProgress.{heeds_none}
use Rattle.clients.proofs.client.Client.read.Goals as goal

pub returns-then-not-listens-clause-lives : goal.returns-then-not-listens-clause-lives
returns-then-not-listens-clause-lives g c = heeds_none g.L.Outgoing.received _ _

pub returns-then-is_unsent-clause-lives : goal.returns-then-is_unsent-clause-lives
returns-then-is_unsent-clause-lives g c = heeds_none g.L.Outgoing.received _ _
