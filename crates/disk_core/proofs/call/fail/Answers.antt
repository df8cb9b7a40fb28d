use Rattle.std.proofs.Common.{rules}
use Rattle.disk_core.proofs.call.fail.Goals as goal

pub returns-clause-counted : goal.returns-clause-counted
returns-clause-counted c = search rules
