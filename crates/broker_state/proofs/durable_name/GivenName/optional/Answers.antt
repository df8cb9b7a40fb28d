use Rattle.std.proofs.Common.{rules}
use Rattle.broker_state.proofs.durable_name.GivenName.optional.Goals as goal

pub returns-in-Some : goal.returns-in-Some
returns-in-Some c = search rules
