use Rattle.std.proofs.Common.{rules}
use Rattle.disk_core.proofs.memory.MemDiskDisk.size.Goals as goal

pub returns : goal.returns
returns c = search rules
