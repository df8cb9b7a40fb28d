use Rattle.line_core.proofs.RisingLines.{rising_rest}
use Rattle.line_core.proofs.line.Line.take.Goals as goal

pub invariant_of-self : goal.invariant_of-self
invariant_of-self c = rw c.pop_front.ensures.rest (rising_rest c.self.inside.messages.items c.self.invariant)
