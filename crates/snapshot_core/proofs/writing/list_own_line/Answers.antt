use Rattle.std.proofs.Common.{rules}
use Rattle.snapshot_core.proofs.writing.list_own_line.Goals as goal

pub returns-clause-put : goal.returns-clause-put
returns-clause-put c = search rules
