use Rattle.std.specs.Prelude.{◌≡◌, ◌<◌, ◌≤◌, ◌^◌, ◌==◌, ◌++◌, List, [], ℕ, true, false, Some, None, IfSome, IsSome, count_by, length, map}
use Rattle.std.specs.List.{AllByRecursion, sum_by}
use Rattle.command_core.specs.declared.command.AckMode.{AckMode}
use Rattle.command_core.specs.declared.command.AckMode.TheVariants.{Auto}
use Rattle.command_core.specs.Destinations.{is_queue}
use Rattle.line_core.specs.declared.message.Message.{Message}
use Rattle.line_core.specs.declared.message.MessageNumber.{MessageNumber}
use Rattle.line_core.specs.Flights.{IsOver}
use Rattle.line_core.specs.Lines.{is_same}
use Rattle.broker_state.specs.declared.subscription.Subscription.{Subscription}
use Rattle.broker_state.specs.HandOut.{hand_out}
use Rattle.broker_state.specs.Kept.{takes_from, unacknowledged_by}
use Rattle.broker_state.specs.Lists.{is_none}
use Rattle.broker_state.specs.Names.{Name, name_cmp, text_cmp}
use Rattle.broker_state.specs.Operations.{client_of, is_named, is_of, topic_of, uses}
use Rattle.broker_state.specs.States.{IsInOrder, State, held_bytes, held_messages, is_open, standing}
use Rattle.broker_state.specs.Waiting.{is_own, line_at}

-- What each state of a broker keeps, after any commands and restarts.

-- how many deliveries of a subscription may be unacknowledged
abbrev pub window_of : AckMode → ℕ
window_of Auto = 0
window_of _ = 16

-- Subscriptions are of open sessions, at most 16 of each, under ids that differ. Few deliveries are unacknowledged, and none
-- with `auto`.
pub record HasSubscriptions (s : State) : Type 0 where
  pub of_open : AllByRecursion (λ sub. is_open s sub.session ≡ true) s.subscriptions
  pub ids : (session : ℕ) (id : List ℕ) → count_by (is_named session id) s.subscriptions ≤ 1
  pub few : (session : ℕ) → count_by (is_of session) s.subscriptions ≤ 16
  pub window : AllByRecursion (λ sub. length sub.unacknowledged ≤ window_of sub.mode) s.subscriptions

-- a durable name of a subscription is one of its session's client, and bound to the subscription's topic
abbrev pub OwnsName : State → Subscription → Type 0
OwnsName s sub = IfSome sub.durable (λ name. (client_of s sub.session ≡ Some name.0) × (topic_of name s.durables ≡ Some sub.destination))

-- At most 256 durable names are bound, each to a topic, and at most one subscription has each. Lines stand only under bound
-- names.
pub record HasNames (s : State) : Type 0 where
  pub few : length s.durables ≤ 256
  pub topics : AllByRecursion (λ durable. is_queue durable.1 ≡ false) s.durables
  pub own : AllByRecursion (OwnsName s) s.subscriptions
  pub once : (name : Name) → count_by (uses name) s.subscriptions ≤ 1
  pub lines : AllByRecursion (λ line. IsSome (topic_of line.0 s.durables)) s.shared.names

-- Messages are of commands that are counted. Deliveries are under the next one, which is at most 2^63, and none is
-- unacknowledged twice.
pub record HasNumbers (s : State) : Type 0 where
  pub messages : AllByRecursion (λ m. m.number.command < s.count) (standing s)
  pub deliveries : AllByRecursion (λ sub. IsOver s.next_delivery sub.unacknowledged) s.subscriptions
  pub most : s.next_delivery ≤ 2 ^ 63
  pub once : (delivery : ℕ) → sum_by (λ sub. count_by (λ d. d.0 == delivery) sub.unacknowledged) s.subscriptions ≤ 1

-- what a subscription has: in its own line, and unacknowledged
abbrev pub had_by : Subscription → List Message
had_by sub = sub.line ++ map (λ (delivery : ℕ × Message). delivery.1) sub.unacknowledged

-- messages to that destination
abbrev pub AreTo : List ℕ → List Message → Type 0
AreTo to messages = AllByRecursion (λ m. m.sending.destination ≡ to) messages

-- no number is that of two of the messages
abbrev pub AreOnce : List Message → Type 0
AreOnce messages = (number : MessageNumber) → count_by (λ m. is_same number m.number) messages ≤ 1

-- No line that stays is empty. Messages stand only in lines of their destination, and are unacknowledged only there. A
-- subscription has messages in its line only if that is one of its own. In a line and what is unacknowledged from it no
-- message stands twice.
pub record HasLines (s : State) : Type 0 where
  pub queues : AllByRecursion (λ line. (is_queue line.0 ≡ true) × (is_none line.1 ≡ false) × AreTo line.0 line.1) s.shared.queues
  pub names : AllByRecursion (λ line. (is_none line.1 ≡ false) × IfSome (topic_of line.0 s.durables) (λ topic. AreTo topic line.1)) s.shared.names
  pub to : AllByRecursion (λ sub. AreTo sub.destination (had_by sub)) s.subscriptions
  pub own : AllByRecursion (λ sub. is_own sub ≡ false → sub.line ≡ []) s.subscriptions
  pub once_in_queues : (to : List ℕ) → AreOnce (line_at text_cmp to s.shared.queues ++ unacknowledged_by (takes_from to) s.subscriptions)
  pub once_under_names : (name : Name) → AreOnce (line_at name_cmp name s.shared.names ++ unacknowledged_by (uses name) s.subscriptions)
  pub once_of_own : AllByRecursion (λ sub. AreOnce (had_by sub)) s.subscriptions

-- No more is held than may be, and nothing that could be handed out waits.
pub record HasLimits (s : State) : Type 0 where
  pub messages : held_messages s ≤ 4096
  pub bytes : held_bytes s ≤ 16777216
  pub settled : hand_out s ≡ None

-- A state that a broker can have.
pub record IsSound (s : State) : Type 0 where
  pub order : IsInOrder s
  pub subscriptions : HasSubscriptions s
  pub names : HasNames s
  pub numbers : HasNumbers s
  pub lines : HasLines s
  pub limits : HasLimits s
