use Rattle.std.proofs.Common.{rules}
use Rattle.snapshot_core.specs.Reading.{durable_name_at}
use Rattle.snapshot_core.proofs.reading.read_durable_name.Goals as goal

pub returns-in_err-durable : goal.returns-in_err-durable
unfolding durable_name_at
returns-in_err-durable c = search rules

pub returns : goal.returns
unfolding durable_name_at
returns c = search rules
