use Rattle.std.specs.Prelude.{◌≡◌, ◌<◌, ◌^◌, List, [], ◌∷◌, ◌++◌, ℕ, Option, IfSome, length, option_map, if◌then◌else◌}
use Rattle.std.specs.Int.{w32, w64, to_be_bytes}
use Rattle.std.specs.List.{AllByRecursion, flat_map}
use Rattle.command_core.specs.Destinations.{IsDestination}
use Rattle.command_core.specs.Texts.{IsGiven}
use Rattle.command_core.specs.PartSpellings.{IsSent, IsText, counted, mode_byte, optional, sending}
use Rattle.line_core.specs.declared.message.Message.{Message}
use Rattle.line_core.specs.Flights as flights
use Rattle.line_core.specs.Lines.{IsRising}
use Rattle.broker_state.specs.declared.subscription.Subscription.{Subscription}
use Rattle.broker_core.specs.Names.{Name, name_cmp}
use Rattle.broker_core.specs.Sound.{IsSound}
use Rattle.broker_core.specs.States.{State}
use Rattle.broker_core.specs.Waiting.{Shared, is_own, line_at}

-- The snapshot of a state: how it stands in the journal. Numbers are big-endian and unsigned; texts, headers and what is
-- sent stand as they do in the record of a command.

-- how many, in four bytes, and each of them
abbrev pub listed : {A : Type 0} → (A → List ℕ) → List A → List ℕ
listed spell xs = to_be_bytes w32 (length xs) ++ flat_map spell xs

-- an open session: its number, and the name of its client
abbrev pub session : ℕ × Option (List ℕ) → List ℕ
session e = to_be_bytes w64 e.0 ++ optional e.1

-- a message: the number of its command, its place there, what is sent
abbrev pub message : Message → List ℕ
message m = to_be_bytes w64 m.number.command ++ to_be_bytes w32 m.number.place ++ sending m.sending

-- the messages that wait in one place
abbrev pub line : List Message → List ℕ
line messages = listed message messages

-- a durable name: that of the client, that of the subscription, the topic, and the line
abbrev pub durable : Shared → Name × List ℕ → List ℕ
durable shared e = counted e.0.0 ++ counted e.0.1 ++ counted e.1 ++ line (line_at name_cmp e.0 shared.names)

-- a queue with messages: its destination, and the line
abbrev pub queue : List ℕ × List Message → List ℕ
queue e = counted e.0 ++ line e.1

-- a delivery that is not acknowledged: its number, and the message
abbrev pub delivery : ℕ × Message → List ℕ
delivery e = to_be_bytes w64 e.0 ++ message e.1

-- a line of a subscription's own; one that has none writes nothing
abbrev pub own_line : Subscription → List ℕ
own_line sub = if is_own sub then line sub.line else []

-- a subscription: the session, the id, the destination, a byte for the mode, its own part of a durable name, a line of its
-- own, and what it has not acknowledged
abbrev pub subscription : Subscription → List ℕ
subscription sub =
    to_be_bytes w64 sub.session ++ counted sub.id ++ counted sub.destination ++ mode_byte sub.mode
    ∷ optional (option_map (λ (name : Name). name.1) sub.durable) ++ own_line sub ++ listed delivery sub.unacknowledged

-- a state: how many commands were carried out, the number of the next delivery, the open sessions, the durable names, the
-- queues with messages, and the subscriptions in waiting order
abbrev pub snapshot_of : State → List ℕ
snapshot_of s =
    to_be_bytes w64 s.count ++ to_be_bytes w64 s.next_delivery ++ listed session s.sessions ++ listed (durable s.shared) s.durables
    ++ listed queue s.shared.queues ++ listed subscription s.subscriptions

-- What may stand there, beside what each state of a broker keeps.

pub record IsMessage (m : Message) : Type 0 where
  pub command : m.number.command < 2 ^ 64
  pub place : m.number.place < 2 ^ 32
  pub sending : IsSent m.sending

-- a line: such messages by rising number
pub record IsLine (messages : List Message) : Type 0 where
  pub each : AllByRecursion IsMessage messages
  pub rising : IsRising messages

abbrev pub IsSession : ℕ × Option (List ℕ) → Type 0
IsSession e = (e.0 < 2 ^ 64) × IfSome e.1 IsText × IsGiven e.1

-- a name: two texts that are not empty
pub record IsName (name : Name) : Type 0 where
  pub client : IsText name.0
  pub client_given : 0 < length name.0
  pub own : IsText name.1
  pub own_given : 0 < length name.1

abbrev pub IsDelivery : ℕ × Message → Type 0
IsDelivery e = (e.0 < 2 ^ 64) × IsMessage e.1

pub record IsSubscription (sub : Subscription) : Type 0 where
  pub session : sub.session < 2 ^ 64
  pub id : IsText sub.id
  pub destination : IsDestination sub.destination
  pub durable : IfSome sub.durable IsName
  pub line : IsLine sub.line
  pub each : AllByRecursion IsDelivery sub.unacknowledged
  pub rising : flights.IsRising sub.unacknowledged

-- numbers of eight bytes, texts of records, lines by rising number, and no more sessions and subscriptions than four bytes
-- can count
pub record HasForm (s : State) : Type 0 where
  pub count : s.count < 2 ^ 64
  pub sessions : AllByRecursion IsSession s.sessions
  pub few_sessions : length s.sessions < 2 ^ 32
  pub durables : AllByRecursion (λ e. IsName e.0 × IsDestination e.1) s.durables
  pub names : AllByRecursion (λ e. IsLine e.1) s.shared.names
  pub queues : AllByRecursion (λ e. IsDestination e.0 × IsLine e.1) s.shared.queues
  pub subscriptions : AllByRecursion IsSubscription s.subscriptions
  pub few_subscriptions : length s.subscriptions < 2 ^ 32

-- The bytes are the snapshot of the state, which is one that a broker can have.
pub record Spells (bytes : List ℕ) (s : State) : Type 0 where
  pub sound : IsSound s
  pub form : HasForm s
  pub spelled : bytes ≡ snapshot_of s
