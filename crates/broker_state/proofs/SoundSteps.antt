-- A state that a broker can have is followed by such ones alone.
use Rattle.command_core.specs.Commands.{CommandValue}
use Rattle.broker_state.specs.declared.nack_rule.NackRule.{NackRule}
use Rattle.broker_state.specs.Executing.{HasFewMembers}
use Rattle.broker_state.specs.Operations.{restarted}
use Rattle.broker_state.specs.Sound.{IsSound}
use Rattle.broker_state.specs.States.{State, empty_state}
use Rattle.broker_state.specs.Steps.{step_by}
use Rattle.broker_state.proofs.Ordered.{empty_in_order, restarted_in_order, step_in_order}
use Rattle.broker_state.proofs.SubscriptionLimits.{empty_limits, restarted_limits, step_limits}
use Rattle.broker_state.proofs.BoundNames.{empty_names, restarted_names, step_names}
use Rattle.broker_state.proofs.StateNumbers.{empty_numbers, restarted_numbers, step_keeps_numbers}
use Rattle.broker_state.proofs.StateLines.{empty_lines, restarted_lines, step_lines}
use Rattle.broker_state.proofs.HeldLimits.{empty_held, restarted_held, step_held}

pub sound_first : IsSound empty_state
sound_first = record {
  order = empty_in_order;
  subscriptions = empty_limits;
  names = empty_names;
  numbers = empty_numbers;
  lines = empty_lines;
  limits = empty_held;
}

pub sound_step : (rule : NackRule) (s : State) (c : CommandValue) → HasFewMembers c.op → IsSound s → IsSound (step_by rule s c)
sound_step rule s c few was = record {
  order = step_in_order rule s c was.order;
  subscriptions = step_limits rule s c was.order was.subscriptions;
  names = step_names rule s c was.order was.names;
  numbers = step_keeps_numbers rule s c was.order was.numbers;
  lines = step_lines rule s c few was.order was.subscriptions was.names was.numbers was.lines;
  limits = step_held rule s c was.order was.limits;
}

pub sound_restart : (s : State) → IsSound s → IsSound (restarted s)
sound_restart s was = record {
  order = restarted_in_order s was.order;
  subscriptions = restarted_limits s was.order was.subscriptions;
  names = restarted_names s was.order was.names;
  numbers = restarted_numbers s was.order was.numbers;
  lines = restarted_lines s was.order was.names was.lines;
  limits = restarted_held s was.order was.limits;
}
