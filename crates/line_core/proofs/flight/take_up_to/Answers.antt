use Rattle.std.proofs.Common.{rules}
use Rattle.line_core.proofs.flight.take_up_to.Goals as goal

pub returns-clause-taken : goal.returns-clause-taken
returns-clause-taken g c = search rules

pub returns-clause-rest : goal.returns-clause-rest
returns-clause-rest g c = search rules
