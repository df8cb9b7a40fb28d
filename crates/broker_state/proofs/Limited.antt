use Rattle.std.proofs.Common.{◌≤◌, ℕ, arith}
use Rattle.command_core.specs.Commands.{CommandValue}
use Rattle.command_core.specs.declared.command.Op.{Op}
use Rattle.command_core.specs.declared.command.Op.TheVariants.{Open, Send, Subscribe, Unsubscribe, Ack, Nack, Commit, Note, End}
use Rattle.broker_state.specs.declared.nack_rule.NackRule.{NackRule}
use Rattle.broker_state.specs.Executing.{HasFewMembers}
use Rattle.broker_state.specs.Sound.{HasSubscriptions}
use Rattle.broker_state.specs.States.{IsInOrder, State}
use Rattle.broker_state.specs.Steps.{led_to}
use Rattle.broker_state.proofs.Ordered.{IsOrdered, ordered_first, ordered_from}
use Rattle.broker_state.proofs.SubscriptionLimits.{limits_from}
use Rattle.broker_state.proofs.Walk.{Keeps, KeepsFrom, beside_from, led_keeps, places_of}

-- Rules of transactions that have at most 64 members.

-- what is known of a state: the order, and the limits of subscriptions
abbrev pub IsLimited : ℕ → State → Type 0
IsLimited number s = IsOrdered number s × HasSubscriptions s

-- a rule that each change keeps is kept up to that place, and where more is known
pub up_to_64 : (number place : ℕ) (Rule : State → Type 0) → Keeps (IsOrdered number) Rule → Keeps (IsLimited number) (λ s. place ≤ 64 → Rule s)
up_to_64 number place Rule k = record {
  opened = λ s client_id earlier known now few. k.opened s client_id earlier known.0 (now few);
  begun = λ s session id to mode can known now few. k.begun s session id to mode can known.0 (now few);
  used = λ s session id to mode name can own topic free known now few.
      k.used s session id to mode name can own topic free known.0 (now few);
  bound = λ s session id to mode name can own unknown short known now few.
      k.bound s session id to mode name can own unknown short known.0 (now few);
  without = λ s passes sub others is known now few. k.without s passes sub others is known.0 (now few);
  closed = λ s session none known now few. k.closed s session none known.0 (now few);
  forgotten = λ s name free known now few. k.forgotten s name free known.0 (now few);
  acknowledged = λ s session delivery known now few. k.acknowledged s session delivery known.0 (now few);
  handed = λ s sub others m rest is line known now few. k.handed s sub others m rest is line known.0 (now few);
}

few_places : (op : Op) → HasFewMembers op → places_of op ≤ 64
few_places (Open client_id) few = omega arith
few_places (Send sending) few = omega arith
few_places (Subscribe id to mode name) few = omega arith
few_places (Unsubscribe id name) few = omega arith
few_places (Ack delivery) few = omega arith
few_places (Nack delivery) few = omega arith
few_places (Commit members) few = few
few_places Note few = omega arith
few_places (End end) few = omega arith

-- What each change keeps up to place 64 is kept by a command with few members.
module _ (s : State) (order : IsInOrder s) (limited : HasSubscriptions s) where
  pub led_few : (Rule : ℕ → State → Type 0) → KeepsFrom (IsLimited s.count) (λ place t. place ≤ 64 → Rule place t) → (rule : NackRule) (c : CommandValue) → HasFewMembers c.op → Rule 0 s → (place : ℕ) × Rule place (led_to rule s c.session c.op).state
  led_few Rule keeps rule c few now =
      let known = beside_from (IsOrdered s.count) (λ place. HasSubscriptions) (ordered_from s.count) (limits_from s.count) in
      let all = beside_from (IsLimited s.count) (λ place t. place ≤ 64 → Rule place t) known keeps in
      let after = led_keeps (λ place t. IsLimited s.count t × (place ≤ 64 → Rule place t)) all rule s c.session c.op order.opened ((ordered_first s order, limited), λ none. now) in
      (after.0, after.2.1 (omega (arith, after.1, few_places c.op few)))
