use Rattle.std.proofs.Common.{rules}
use Rattle.disk_core.proofs.fuse.spend.Goals as goal

pub returns-then-left-eq0-clause-passes : goal.returns-then-left-eq0-clause-passes
returns-then-left-eq0-clause-passes c = search rules
