use Rattle.std.specs.Prelude.{◌<◌, ◌+◌, ◌++◌, List, [], ℕ, Bool, Option, is_some, map}
use Rattle.std.specs.BTreeMap.{is_at}
use Rattle.std.specs.List.{AllByRecursion, flat_map, sum_by}
use Rattle.std.specs.List.Sorted.{IsStrictlySortedBy}
use Rattle.std.specs.Map.{keys_of, lookup}
use Rattle.std.specs.Ordering.{nat_cmp}
use Rattle.line_core.specs.declared.message.Message.{Message}
use Rattle.line_core.specs.Flights.{IsOver}
use Rattle.line_core.specs.Messages.{size_of}
use Rattle.broker_state.specs.declared.subscription.Subscription.{Subscription}
use Rattle.broker_state.specs.Names.{Name, name_cmp, text_cmp}
use Rattle.broker_state.specs.Waiting.{Shared, weight_of_shared}

-- What the broker knows: how many commands it has carried out, the number of the next delivery, and the open sessions with
-- their client-id by rising number. Then come the topic of each durable name by rising name, the lines that stay when a
-- subscription ends, and the subscriptions in waiting order.
pub record State : Type 0 where
  pub count : ℕ
  pub next_delivery : ℕ
  pub sessions : List (ℕ × Option (List ℕ))
  pub durables : List (Name × List ℕ)
  pub shared : Shared
  pub subscriptions : List Subscription

-- before the first command
abbrev pub empty_state : State
empty_state = record { count = 0; next_delivery = 0; sessions = []; durables = []; shared = record { names = []; queues = [] }; subscriptions = [] }

-- whether the session of that number is open
abbrev pub is_open : State → ℕ → Bool
is_open s session = is_some (lookup (is_at (nat_cmp session)) s.sessions)

-- what the messages of a subscription weigh: of its own line, and those that it has not acknowledged
abbrev pub weight_of_subscription : (Message → ℕ) → Subscription → ℕ
weight_of_subscription weight sub = sum_by weight sub.line + sum_by (λ delivery. weight delivery.1) sub.unacknowledged

-- what all messages weigh that the broker holds, in lines and unacknowledged
abbrev pub weight_of : (Message → ℕ) → State → ℕ
weight_of weight s = weight_of_shared weight s.shared + sum_by (weight_of_subscription weight) s.subscriptions

-- each message counts for one
abbrev pub one : Message → ℕ
one m = 1

-- a message counts for its bytes: destination, names and values, body
abbrev pub bytes : Message → ℕ
bytes m = size_of m.sending

-- how many messages the broker holds; a message counts in each line and unacknowledged list where it stands
abbrev pub held_messages : State → ℕ
held_messages s = weight_of one s

-- how many bytes it holds
abbrev pub held_bytes : State → ℕ
held_bytes s = weight_of bytes s

-- all messages that stand somewhere: in the lines of durable names and queues, in those of subscriptions, and unacknowledged
abbrev pub standing : State → List Message
standing s =
    flat_map (λ (e : Name × List Message). e.1) s.shared.names
    ++ flat_map (λ (e : List ℕ × List Message). e.1) s.shared.queues
    ++ flat_map (λ (sub : Subscription). sub.line ++ map (λ (delivery : ℕ × Message). delivery.1) sub.unacknowledged) s.subscriptions

-- the broker: its state, and whether it is broken
pub record BrokerValue : Type 0 where
  pub state : State
  pub broken : Bool

-- Sessions stand by rising number, and were opened by commands that are counted. Durable names stand by rising name, and so
-- do their lines. Queues stand by rising bytes of their destination.
pub record IsInOrder (s : State) : Type 0 where
  pub sessions : IsStrictlySortedBy nat_cmp (keys_of s.sessions)
  pub opened : AllByRecursion (λ session. session.0 < s.count) s.sessions
  pub durables : IsStrictlySortedBy name_cmp (keys_of s.durables)
  pub names : IsStrictlySortedBy name_cmp (keys_of s.shared.names)
  pub queues : IsStrictlySortedBy text_cmp (keys_of s.shared.queues)

-- The number of the next delivery is over those of all that are not acknowledged.
abbrev pub IsNext : State → Type 0
IsNext s = AllByRecursion (λ sub. IsOver s.next_delivery sub.unacknowledged) s.subscriptions
