use Rattle.std.proofs.Common.{rules}
use Rattle.snapshot_core.specs.Reading.{had_at}
use Rattle.snapshot_core.proofs.reading.read_had.Goals as goal

pub returns : goal.returns
unfolding had_at
returns c = search rules
