use Rattle.std.proofs.Common.{rules}
use Rattle.broker_state.proofs.part_checks.is_to.Goals as goal

pub returns : goal.returns
returns c = search rules
