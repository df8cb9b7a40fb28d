use Rattle.std.specs.Prelude.{◌+◌, ◌^◌, ◌&&◌, List, [], ◌∷◌, ◌++◌, ℕ, zero, suc, Bool, true, false, not, Option, Some, None, length, nat_lt, if◌then◌else◌}
use Rattle.std.specs.List.{sum_by}
use Rattle.command_core.specs.declared.command.AckMode.{AckMode}
use Rattle.command_core.specs.declared.command.AckMode.TheVariants.{Auto}
use Rattle.command_core.specs.Outs.{OutValue}
use Rattle.command_core.specs.Replies.{message_frame}
use Rattle.line_core.specs.declared.message.Message.{Message}
use Rattle.broker_state.specs.declared.subscription.Subscription.{Subscription}
use Rattle.broker_state.specs.Lists.{is_none, picked}
use Rattle.broker_state.specs.States.{State, one}
use Rattle.broker_state.specs.Waiting.{left_line, left_shared, line_for, weight_of_shared}

-- whether a subscription's messages count as received once they are sent (STOMP 1.2, "SUBSCRIBE ack Header")
abbrev pub is_auto : AckMode → Bool
is_auto Auto = true
is_auto _ = false

-- a subscription may have one more delivery: without acknowledgement always, else while fewer than 16 are unacknowledged
abbrev pub has_room : Subscription → Bool
has_room sub = if is_auto sub.mode then true else nat_lt (length sub.unacknowledged) 16

-- whether a subscription can be served now
abbrev pub can_take : State → Subscription → Bool
can_take s sub = nat_lt s.next_delivery (2 ^ 63) && has_room sub && not (is_none (line_for s.shared sub))

-- one delivery: the state after it, and the MESSAGE
pub record Handed : Type 0 where
  pub state : State
  pub out : OutValue

-- the number by which a delivery is acknowledged, if it is to be
abbrev pub ack_of : Subscription → ℕ → Option ℕ
ack_of sub delivery = if is_auto sub.mode then None else Some delivery

-- The MESSAGE of a delivery.
abbrev pub message_out : ℕ → Subscription → ℕ → Message → OutValue
message_out number sub delivery m = record {
  number = number;
  session = sub.session;
  frame = message_frame sub.id m.number.command m.number.place (ack_of sub delivery) m.sending;
}

-- the subscription with one more delivery, which is unacknowledged unless the mode is `auto`
abbrev pub delivered : Subscription → ℕ → Message → Subscription
delivered sub delivery m = record sub { unacknowledged = if is_auto sub.mode then sub.unacknowledged else sub.unacknowledged ++ (delivery, m) ∷ [] }

-- a subscription gets the least message of its line, and then waits last, after the others
abbrev pub handed : State → Subscription → List Subscription → Message → List Message → Handed
handed s sub others m rest = record {
  state = record s {
    next_delivery = s.next_delivery + 1;
    shared = left_shared s.shared sub rest;
    subscriptions = others ++ delivered (left_line sub rest) s.next_delivery m ∷ [];
  };
  out = message_out s.count sub s.next_delivery m;
}

abbrev pub handed_from : State → Subscription → List Subscription → List Message → Option Handed
handed_from s sub others [] = None
handed_from s sub others (m ∷ rest) = Some (handed s sub others m rest)

abbrev pub handed_to : State → Option (Subscription × List Subscription) → Option Handed
handed_to s None = None
handed_to s (Some p) = handed_from s p.0 p.1 (line_for s.shared p.0)

-- the next delivery: the first subscription in waiting order that can be served is served
abbrev pub hand_out : State → Option Handed
hand_out s = handed_to s (picked (can_take s) s.subscriptions)

-- how many messages wait in lines
abbrev pub waiting : State → ℕ
waiting s = weight_of_shared one s.shared + sum_by (λ sub. sum_by one sub.line) s.subscriptions

-- deliveries: the state after them, and the MESSAGEs in their order
pub record Settling : Type 0 where
  pub state : State
  pub outs : List OutValue

abbrev pub behind : Handed → Settling → Settling
behind h rest = record { state = rest.state; outs = h.out ∷ rest.outs }

-- deliveries one after another until none can be made, but at most so many
abbrev pub settling : ℕ → State → Settling
settling zero s = record { state = s; outs = [] }
settling (suc n) s = elim (hand_out s) as (λ o. Settling) [ None ↦ record { state = s; outs = [] } | Some h ↦ behind h (settling n h.state) ]

-- Deliveries one after another until none can be made. Each takes a message out of a line, so there are at most as many
-- as messages wait.
abbrev pub settled : State → Settling
settled s = settling (waiting s) s
