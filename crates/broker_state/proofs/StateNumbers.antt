use Rattle.std.proofs.Common.{arith}
use Rattle.command_core.specs.Commands.{CommandValue}
use Rattle.broker_state.specs.declared.nack_rule.NackRule.{NackRule}
use Rattle.broker_state.specs.Operations.{restarted}
use Rattle.broker_state.specs.Sound.{HasNumbers}
use Rattle.broker_state.specs.States.{IsInOrder, State, empty_state}
use Rattle.broker_state.specs.Steps.{step_by}
use Rattle.broker_state.proofs.DeliveryNumbers.{HasDeliveries, deliveries_kept, deliveries_kept_from}
use Rattle.broker_state.proofs.MessageNumbers.{restarted_messages, step_numbers}
use Rattle.broker_state.proofs.Walk.{led_keeps, restarted_keeps}

deliveries_of : (s : State) → HasNumbers s → HasDeliveries s
deliveries_of s now = record { under = now.deliveries; most = now.most; once = now.once }

pub empty_numbers : HasNumbers empty_state
empty_numbers = record { messages = tt; deliveries = tt; most = omega arith; once = λ delivery. omega arith }

pub step_keeps_numbers : (rule : NackRule) (s : State) (c : CommandValue) → IsInOrder s → HasNumbers s → HasNumbers (step_by rule s c)
step_keeps_numbers rule s c order now =
    let led = (led_keeps (λ place. HasDeliveries) deliveries_kept_from rule s c.session c.op order.opened (deliveries_of s now)).2 in
    record { messages = step_numbers rule s c order now.messages; deliveries = led.under; most = led.most; once = led.once }

pub restarted_numbers : (s : State) → IsInOrder s → HasNumbers s → HasNumbers (restarted s)
restarted_numbers s order now =
    let kept = restarted_keeps HasDeliveries deliveries_kept s (deliveries_of s now) in
    record { messages = restarted_messages s order now.messages; deliveries = kept.under; most = kept.most; once = kept.once }
