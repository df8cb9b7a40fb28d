use Rattle.std.proofs.Common.{rules}
use Rattle.broker_state.proofs.part_checks.is_client.Goals as goal

pub returns-in-Some-Some : goal.returns-in-Some-Some
returns-in-Some-Some c = search rules
