use Rattle.area_core.proofs.Unwritten.{reads_yet}
use Rattle.std.proofs.Common.{arith, rules}
use Rattle.area_core.proofs.area.Area.block_len.Goals as goal

pub returns-then-left-lt10-clause-reads : goal.returns-then-left-lt10-clause-reads
returns-then-left-lt10-clause-reads g c = reads_yet g.D.Disk c.args.disk.now (g.met.D.Disk.only_now c.args.disk.now)

pub returns-clause-some : goal.returns-clause-some
returns-clause-some g c = omega arith

pub returns-clause-fits : goal.returns-clause-fits
returns-clause-fits g c = omega arith

pub returns-then-count-eq0-clause-refused : goal.returns-then-count-eq0-clause-refused
returns-then-count-eq0-clause-refused g c = search rules
