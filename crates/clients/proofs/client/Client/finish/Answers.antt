use Rattle.std.proofs.Common.{ap, refl}
use Rattle.clients.specs.Connections.{connection_of}
use Rattle.clients.proofs.ClientProgress.{heeds_none, heeds_quietly}
use Rattle.clients.proofs.ConnectionLife.{loses, same_stage}
use Rattle.clients.proofs.client.Client.finish.Goals as goal

pub returns-in-Leaving-clause-lives : goal.returns-in-Leaving-clause-lives
returns-in-Leaving-clause-lives g c = heeds_none g.L.Outgoing.received _ _

pub returns-then-is_err-clause-lives : goal.returns-then-is_err-clause-lives
returns-then-is_err-clause-lives g c = heeds_quietly g.L.Outgoing.received _ _ _ _ c.flush.ensures.unread (loses (connection_of c.args.self.now) _ (ap (λ x. record (connection_of c.args.self.now) { stage = x }) c.lost-self.ensures)) refl

pub returns-else-is_err-clause-lives : goal.returns-else-is_err-clause-lives
returns-else-is_err-clause-lives g c = heeds_quietly g.L.Outgoing.received _ _ _ _ c.flush.ensures.unread (same_stage (connection_of c.args.self.now) _ refl) refl
