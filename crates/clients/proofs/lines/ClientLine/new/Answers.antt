use Rattle.std.proofs.Common.{rules, arith}
use Rattle.clients.proofs.LineKeeps.{nobody}
use Rattle.clients.proofs.lines.ClientLine.new.Goals as goal

pub invariant_of-result : goal.invariant_of-result
invariant_of-result c = rw c.in_ok-order.ensures.items (nobody _ _ (c.in_ok-stands.ensures.items_if_clones_equal (search rules)) (omega (arith, c.in_ok-order.ensures.exact)))
