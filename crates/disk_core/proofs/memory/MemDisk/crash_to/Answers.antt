use Rattle.std.proofs.Common.{arith, rules}
use Rattle.std.proofs.lemmas.Grind.{common_steps}
use Rattle.disk_core.proofs.memory.MemDisk.crash_to.Goals as goal

pub returns-clause-crashed : goal.returns-clause-crashed
returns-clause-crashed c = grind (arith, common_steps)

pub returns-clause-image : goal.returns-clause-image
returns-clause-image c = search rules
