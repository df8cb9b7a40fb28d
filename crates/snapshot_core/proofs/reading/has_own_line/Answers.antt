use Rattle.std.proofs.Common.{rules}
use Rattle.snapshot_core.proofs.reading.has_own_line.Goals as goal

pub returns : goal.returns
returns c = search rules
