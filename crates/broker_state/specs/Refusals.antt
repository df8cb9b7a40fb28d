-- What a NACK that is carried out leaves of every message.
use Rattle.std.specs.Prelude.{◌≡◌, ◌≢◌, ◌+◌, List, ℕ, Some, if◌then◌else◌}
use Rattle.std.specs.List.{AllByRecursion, sum_by}
use Rattle.line_core.specs.declared.message.Message.{Message}
use Rattle.line_core.specs.Flights.{settled}
use Rattle.broker_state.specs.declared.subscription.Subscription.{Subscription}
use Rattle.broker_state.specs.Dead.{IsStill, dead_queue, is_dropped, refused}
use Rattle.broker_state.specs.Lists.{IsAmong, picked, with_first}
use Rattle.broker_state.specs.Names.{text_cmp}
use Rattle.broker_state.specs.Operations.{awaits, settled_by}
use Rattle.broker_state.specs.States.{IsInOrder, State, weight_of}
use Rattle.broker_state.specs.Waiting.{is_own, line_at}

-- the subscription that has the delivery among those of a session has P
abbrev pub Awaiting : State → ℕ → ℕ → (Subscription → Type 0) → Type 0
Awaiting s session delivery P =
    (sub : Subscription) (others : List Subscription) → picked (awaits session delivery) s.subscriptions ≡ Some (sub, others) → P sub

-- a message weighs the same once it is refused
abbrev pub IsOfContent : (Message → ℕ) → Type 0
IsOfContent weight = (command place : ℕ) (m : Message) → weight (refused command place m) ≡ weight m

-- what the dropped messages weigh, of those that the NACK of a delivery settles
abbrev pub weight_dropped : (Message → ℕ) → ℕ → Subscription → ℕ
weight_dropped weight delivery sub =
    sum_by (λ d. if is_dropped (is_own sub) d.1 then weight d.1 else 0) (settled sub.mode delivery sub.unacknowledged)

-- Only what the rule drops is lost. Each delivery of the subscription is still unsettled, or dropped, or in the queue of refused
-- messages. What waited there still does, and so does all in other lines and subscriptions.
pub record LosesOnlyDropped (s t : State) (session delivery : ℕ) : Type 0 where
  pub settled : Awaiting s session delivery (λ sub. AllByRecursion (IsStill s t delivery sub) sub.unacknowledged)
  pub waiting : (m : Message) → IsAmong m (line_at text_cmp dead_queue s.shared.queues) → IsAmong m (line_at text_cmp dead_queue t.shared.queues)
  pub subscriptions : t.subscriptions ≡ with_first (awaits session delivery) (settled_by delivery) s.subscriptions
  pub names : t.shared.names ≡ s.shared.names
  pub queues : (to : List ℕ) → to ≢ dead_queue → line_at text_cmp to t.shared.queues ≡ line_at text_cmp to s.shared.queues
  pub weight : (weight : Message → ℕ) → IsOfContent weight → IsInOrder s
      → Awaiting s session delivery (λ sub. weight_of weight t + weight_dropped weight delivery sub ≡ weight_of weight s)
