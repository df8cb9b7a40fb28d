use Rattle.broker_state.proofs.HeldLimits.{empty_held, restarted_held, step_held}
use Rattle.broker_state.proofs.laws.limits_are_kept.Goals as goal

pub returns : goal.returns
returns c = record { first = empty_held; step = step_held; restart = restarted_held }
