use Rattle.std.proofs.Common.{rules}
use Rattle.line_core.proofs.line.Line.first.Goals as goal

pub returns-clause-first : goal.returns-clause-first
returns-clause-first c = search rules
