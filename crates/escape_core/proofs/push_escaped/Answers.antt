use Rattle.std.proofs.Common.{rules}
use Rattle.escape_core.proofs.push_escaped.Goals as goal

pub returns-in-58 : goal.returns-in-58
returns-in-58 c = rw c.in-58.is (search rules)
