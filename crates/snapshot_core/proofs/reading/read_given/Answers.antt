use Rattle.std.proofs.Common.{rules}
use Rattle.snapshot_core.proofs.reading.read_given.Goals as goal

pub new-requires : goal.new-requires
new-requires c = search rules
