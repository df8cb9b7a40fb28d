use Rattle.std.proofs.Common.{arith}
use Rattle.clients.proofs.LineKeeps.{at_most, is_line}
use Rattle.clients.proofs.lines.ClientLine.len.Goals as goal

pub returns-clause-line : goal.returns-clause-line
returns-clause-line c = rw (← c.self.view_is) (is_line _ _ _ c.self.invariant)

pub returns-clause-most : goal.returns-clause-most
returns-clause-most c = omega (arith, at_most _ _ _ c.self.invariant, c.self.inside.order.ok)
