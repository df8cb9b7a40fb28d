use Rattle.std.proofs.Common.{rules}
use Rattle.snapshot_core.specs.Reading.{state_at}
use Rattle.snapshot_core.proofs.reading.read_parts.Goals as goal

pub returns : goal.returns
unfolding state_at
returns c = search rules
