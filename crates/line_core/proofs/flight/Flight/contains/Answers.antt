use Rattle.std.proofs.Common.{rules}
use Rattle.line_core.proofs.flight.Flight.contains.Goals as goal

pub returns-clause-has : goal.returns-clause-has
returns-clause-has g c = search rules
