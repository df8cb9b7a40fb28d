use Rattle.std.proofs.Common.{ap, refl}
use Rattle.clients.specs.Connections.{connection_of}
use Rattle.clients.proofs.ConnectionLife.{loses, waits_still}
use Rattle.clients.proofs.client.Client.evict.Goals as goal

pub invariant_of-self-clause-next : goal.invariant_of-self-clause-next
invariant_of-self-clause-next g c = waits_still (connection_of c.args.self.now) _ _ _ (loses (connection_of c.args.self.now) _ (ap (λ x. record (connection_of c.args.self.now) { stage = x }) c.lost-self.ensures)).restaged refl c.args.self.now.next
