use Rattle.std.proofs.Common.{rules}
use Rattle.disk_core.proofs.fuse.FuseDisk.new.Goals as goal

pub returns-clause-calls : goal.returns-clause-calls
returns-clause-calls g c = search rules
