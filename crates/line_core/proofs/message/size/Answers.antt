use Rattle.std.proofs.Common.{rules}
use Rattle.line_core.proofs.message.size.Goals as goal

pub returns-clause-size : goal.returns-clause-size
returns-clause-size c = search rules
