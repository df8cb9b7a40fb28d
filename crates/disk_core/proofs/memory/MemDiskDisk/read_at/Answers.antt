use Rattle.std.proofs.Common.{rules}
use Rattle.disk_core.proofs.memory.MemDiskDisk.read_at.Goals as goal

pub returns-clause-bytes : goal.returns-clause-bytes
returns-clause-bytes c = search rules
