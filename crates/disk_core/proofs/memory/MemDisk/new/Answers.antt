use Rattle.std.proofs.Common.{rules}
use Rattle.disk_core.proofs.memory.MemDisk.new.Goals as goal

pub returns-clause-fresh : goal.returns-clause-fresh
returns-clause-fresh c = search rules
