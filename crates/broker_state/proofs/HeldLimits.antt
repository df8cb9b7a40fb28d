use Rattle.std.proofs.Common.{◌≡◌, ◌≤◌, ◌+◌, ◌||◌, List, [], ◌∷◌, ℕ, Bool, true, false, Option, Some, None, nat_le, refl, arith, if◌then◌else◌}
use Rattle.std.proofs.lemmas.Bool.{and_parts, leb-true}
use Rattle.command_core.specs.Commands.{CommandValue}
use Rattle.line_core.specs.declared.message.Message.{Message}
use Rattle.broker_state.specs.declared.subscription.Subscription.{Subscription}
use Rattle.broker_state.specs.HandOut.{can_take, hand_out, handed_from, handed_to, settled}
use Rattle.broker_state.specs.declared.nack_rule.NackRule.{NackRule}
use Rattle.broker_state.specs.Lists.{picked}
use Rattle.broker_state.specs.Operations.{is_within, message_of, restarted, fanned_out}
use Rattle.broker_state.specs.Sound.{HasLimits}
use Rattle.broker_state.specs.States.{IsInOrder, State, bytes, empty_state, held_bytes, held_messages, is_open, one, weight_of}
use Rattle.broker_state.specs.Steps.{done, is_opening, led_to, step_by}
use Rattle.broker_state.specs.Waiting.{line_for}
use Rattle.broker_state.proofs.Conserved.{IsLight, light_changes}
use Rattle.broker_state.proofs.Deliveries.{settled_ends}
use Rattle.broker_state.proofs.Ordered.{IsOrdered, done_ordered, led_in_order, restarted_keeps_in_order}
use Rattle.broker_state.proofs.Walk.{KeepsFrom}
use Rattle.broker_state.proofs.Refusals.{kept_in}

-- What a sending and a refusal may not exceed, no other change exceeds.
module _ (weight : Message → ℕ) (most : ℕ) (fits : (s : State) → is_within s ≡ true → weight_of weight s ≤ most) where
  within_from : (number : ℕ) → KeepsFrom (IsOrdered number) (λ place. IsLight weight most 0)
  within_from number = record {
    changes = λ place. light_changes weight most number 0;
    next = λ place s known now. now;
    fanned_out = λ place s sending within known now. omega (arith, fits (fanned_out s (message_of s.count place sending)) within);
    refused = λ place s session delivery sub others is within known now. omega (arith, fits (kept_in s session place delivery sub) within);
  }

  step_within : (rule : NackRule) (s : State) (c : CommandValue) → IsInOrder s → weight_of weight s ≤ most → weight_of weight (step_by rule s c) ≤ most
  step_within rule s c order now =
      omega (arith, (led_in_order s order (λ place. IsLight weight most 0) (within_from s.count) rule c (omega (arith, now))).2)

  restarted_within : (s : State) → IsInOrder s → weight_of weight s ≤ most → weight_of weight (restarted s) ≤ most
  restarted_within s order now =
      omega (arith, restarted_keeps_in_order s order (IsLight weight most 0) (light_changes weight most s.count 0) (omega (arith, now)))

few_messages : (s : State) → is_within s ≡ true → held_messages s ≤ 4096
few_messages s within =
    leb-true (held_messages s) 4096 (and_parts (nat_le (held_messages s) 4096) (nat_le (held_bytes s) 16777216) within).0

few_bytes : (s : State) → is_within s ≡ true → held_bytes s ≤ 16777216
few_bytes s within =
    leb-true (held_bytes s) 16777216 (and_parts (nat_le (held_messages s) 4096) (nat_le (held_bytes s) 16777216) within).1

-- the count has no part in whether something can be handed out
nothing_counted : (s : State) (number : ℕ) → hand_out s ≡ None → hand_out (record s { count = number }) ≡ None
nothing_counted s number none = by (picked (can_take s) s.subscriptions) none
  where
    from : (sub : Subscription) (others : List Subscription) (line : List Message) → handed_from s sub others line ≡ None → handed_from (record s { count = number }) sub others line ≡ None
    from sub others [] is = refl
    from sub others (m ∷ rest) is = absurd cc

    by : (o : Option (Subscription × List Subscription)) → handed_to s o ≡ None → handed_to (record s { count = number }) o ≡ None
    by None is = refl
    by (Some q) is = from q.0 q.1 (line_for s.shared q.0) is

-- once a command is carried out nothing is left to be handed out
led_settled : (rule : NackRule) (s : State) (c : CommandValue) → IsInOrder s → hand_out s ≡ None → hand_out (led_to rule s c.session c.op).state ≡ None
led_settled rule s c order none = by (is_opening c.op || is_open s c.session)
  where
    by : (b : Bool) → hand_out (if b then settled (done rule s c.session c.op) else record { state = s; outs = [] }).state ≡ None
    by true = settled_ends (done rule s c.session c.op) (done_ordered rule s c order).order
    by false = none

-- nothing is held at first
pub empty_held : HasLimits empty_state
empty_held = record { messages = omega arith; bytes = omega arith; settled = refl }

-- a step keeps the limits of what is held, and so does a restart
pub step_held : (rule : NackRule) (s : State) (c : CommandValue) → IsInOrder s → HasLimits s → HasLimits (step_by rule s c)
step_held rule s c order now = record {
  messages = step_within one 4096 few_messages rule s c order now.messages;
  bytes = step_within bytes 16777216 few_bytes rule s c order now.bytes;
  settled = nothing_counted (led_to rule s c.session c.op).state (s.count + 1) (led_settled rule s c order now.settled);
}

pub restarted_held : (s : State) → IsInOrder s → HasLimits s → HasLimits (restarted s)
restarted_held s order now = record {
  messages = restarted_within one 4096 few_messages s order now.messages;
  bytes = restarted_within bytes 16777216 few_bytes s order now.bytes;
  settled = refl;
}
