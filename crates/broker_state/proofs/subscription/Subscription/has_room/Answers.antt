use Rattle.std.proofs.Common.{rules}
use Rattle.broker_state.proofs.subscription.Subscription.has_room.Goals as goal

pub returns-in-Client : goal.returns-in-Client
returns-in-Client c = search rules
