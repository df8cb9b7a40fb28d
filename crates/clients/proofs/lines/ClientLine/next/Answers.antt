use Rattle.std.proofs.Common.{arith}
use Rattle.clients.proofs.LineKeeps.{leaves, first_stands}
use Rattle.clients.proofs.lines.ClientLine.next.Goals as goal

pub index_mut-requires : goal.index_mut-requires
index_mut-requires c = omega (arith, first_stands _ _ _ _ _ c.self.invariant c.in_ok-client.ensures.items, c.self.inside.stands.ok)

pub invariant_of-self-2 : goal.invariant_of-self-2
invariant_of-self-2 c = rw c.in_ok-client.ensures.capacity (leaves _ _ _ _ _ c.self.invariant c.in_ok-client.ensures.items)
