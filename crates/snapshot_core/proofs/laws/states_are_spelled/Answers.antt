use Rattle.std.proofs.Common.{arith, refl}
use Rattle.broker_state.proofs.Ordered.{empty_in_order}
use Rattle.broker_state.proofs.SubscriptionLimits.{empty_limits}
use Rattle.broker_state.proofs.BoundNames.{empty_names}
use Rattle.broker_state.proofs.StateNumbers.{empty_numbers}
use Rattle.broker_state.proofs.StateLines.{empty_lines}
use Rattle.broker_state.proofs.HeldLimits.{empty_held}
use Rattle.snapshot_core.proofs.laws.states_are_spelled.Goals as goal

pub returns-clause-first : goal.returns-clause-first
returns-clause-first c = record {
  sound = record { order = empty_in_order; subscriptions = empty_limits; names = empty_names; numbers = empty_numbers; lines = empty_lines; limits = empty_held };
  form = record { count = omega arith; sessions = tt; few_sessions = omega arith; durables = tt; names = tt; queues = tt; subscriptions = tt; few_subscriptions = omega arith };
  spelled = refl;
}

pub returns-clause-message : goal.returns-clause-message
returns-clause-message c = refl
