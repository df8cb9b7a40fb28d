use Rattle.std.proofs.Common.{ap, refl}
use Rattle.clients.specs.Connections.{connection_of}
use Rattle.clients.proofs.ClientProgress.{heeds_quietly}
use Rattle.clients.proofs.ConnectionLife.{loses, parts, same_stage, waits_still}
use Rattle.clients.proofs.client.Client.part.Goals as goal

pub returns-in-Err-Memory-clause-lives : goal.returns-in-Err-Memory-clause-lives
returns-in-Err-Memory-clause-lives g c = heeds_quietly g.L.Outgoing.received _ _ _ _ c.in-Err-Memory.ensures.unread (same_stage (connection_of c.args.self.now) _ refl) refl

pub returns-in-Ok-clause-lives : goal.returns-in-Ok-clause-lives
returns-in-Ok-clause-lives g c = heeds_quietly g.L.Outgoing.received _ _ _ _ c.in-Ok.ensures.unread (parts (connection_of c.args.self.now) _ (ap (λ x. record (connection_of c.args.self.now) { stage = x }) c.parted-self.ensures)) refl

pub returns-in-Err-Gone-clause-lives : goal.returns-in-Err-Gone-clause-lives
returns-in-Err-Gone-clause-lives g c = heeds_quietly g.L.Outgoing.received _ _ _ _ c.in-Err-Gone.ensures.unread (loses (connection_of c.args.self.now) _ (ap (λ x. record (connection_of c.args.self.now) { stage = x }) c.lost-self.ensures)) refl

pub invariant_of-self-clause-next : goal.invariant_of-self-clause-next
invariant_of-self-clause-next g c = waits_still (connection_of c.args.self.now) _ _ _ (parts (connection_of c.args.self.now) _ (ap (λ x. record (connection_of c.args.self.now) { stage = x }) c.parted-self.ensures)).restaged refl c.args.self.now.next

pub invariant_of-self-in-Err-Gone-clause-next : goal.invariant_of-self-in-Err-Gone-clause-next
invariant_of-self-in-Err-Gone-clause-next g c = waits_still (connection_of c.args.self.now) _ _ _ (loses (connection_of c.args.self.now) _ (ap (λ x. record (connection_of c.args.self.now) { stage = x }) c.lost-self.ensures)).restaged refl c.args.self.now.next
