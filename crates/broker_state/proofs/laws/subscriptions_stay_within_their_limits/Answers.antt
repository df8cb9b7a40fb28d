use Rattle.broker_state.proofs.SubscriptionLimits.{empty_limits, restarted_limits, step_limits}
use Rattle.broker_state.proofs.laws.subscriptions_stay_within_their_limits.Goals as goal

pub returns : goal.returns
returns c = record { first = empty_limits; step = step_limits; restart = restarted_limits }
