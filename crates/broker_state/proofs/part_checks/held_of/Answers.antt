use Rattle.std.proofs.Common.{arith}
use Rattle.broker_state.proofs.part_checks.held_of.Goals as goal

pub returns-clause-messages : goal.returns-clause-messages
returns-clause-messages c = omega (arith, c.in-Some.ensures.0)
