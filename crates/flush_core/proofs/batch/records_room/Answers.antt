use Rattle.std.proofs.Common.{arith}
use Rattle.flush_core.proofs.batch.records_room.Goals as goal

pub returns-clause-fits : goal.returns-clause-fits
returns-clause-fits c = λ cs some few. omega (arith, some, few)

pub returns-clause-long : goal.returns-clause-long
returns-clause-long c = λ cs more. omega (arith, more)
