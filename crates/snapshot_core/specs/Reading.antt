-- Reading the parts of a snapshot from the front of bytes: what is read and the bytes after it, or nothing if no spelling
-- begins them.
use Rattle.std.specs.Prelude.{◌&&◌, ◌||◌, ℕ, Bool, true, false, List, [], ◌∷◌, Option, Some, None, length, map, is_some, not, nat_lt, if◌then◌else◌}
use Rattle.std.specs.Int.{w32, w64}
use Rattle.std.specs.List.{list_all}
use Rattle.std.specs.Map.{keys_of}
use Rattle.std.specs.Ordering.{is_lt, nat_cmp}
use Rattle.std.specs.declared.cmp.Ordering.{Ordering}
use Rattle.command_core.specs.declared.command.AckMode.{AckMode}
use Rattle.command_core.specs.Destinations.{is_queue}
use Rattle.command_core.specs.PartReading.{◌>>=◌, Reader, destination_at, listed_at, mode_at, name_at, number_at, sending_at, text_at}
use Rattle.line_core.specs.declared.message.Message.{Message}
use Rattle.line_core.specs.Lines.{by_number}
use Rattle.broker_state.specs.declared.subscription.Subscription.{Subscription}
use Rattle.broker_core.specs.Lists.{is_none}
use Rattle.broker_core.specs.Names.{Name, name_cmp, text_cmp}
use Rattle.broker_core.specs.Operations.{client_in}
use Rattle.broker_core.specs.States.{State}
use Rattle.broker_core.specs.Waiting.{Lines}

-- lists

-- whether each key is under those after it
unfoldable pub rises : {K : Type 0} → (K → K → Ordering) → List K → Bool
rises cmp [] = true
rises cmp (key ∷ keys) = list_all (λ other. is_lt (cmp key other)) keys && rises cmp keys

-- a list by rising key
unfoldable pub keyed_at : {K X : Type 0} → (K → K → Ordering) → Reader (K × X) → Reader (List (K × X))
keyed_at cmp one bytes = do
  items ← listed_at one bytes
  if rises cmp (keys_of items.0) then Some items else None

-- messages

unfoldable pub message_at : Reader Message
message_at bytes = do
  command ← number_at w64 bytes
  place ← number_at w32 command.1
  sending ← sending_at place.1
  Some (record { number = record { command = command.0; place = place.0 }; sending = sending.0 }, sending.1)

-- whether no message has a number under that of one before it
unfoldable pub is_rising : List Message → Bool
is_rising [] = true
is_rising (m ∷ messages) = list_all (λ other. not (is_lt (by_number other.number m.number))) messages && is_rising messages

unfoldable pub waiting_at : Reader (List Message)
waiting_at bytes = do
  messages ← listed_at message_at bytes
  if is_rising messages.0 then Some messages else None

unfoldable pub delivery_at : Reader (ℕ × Message)
delivery_at bytes = do
  number ← number_at w64 bytes
  message ← message_at number.1
  Some ((number.0, message.0), message.1)

-- sessions, durable names, queues

unfoldable pub session_at : Reader (ℕ × Option (List ℕ))
session_at bytes = do
  number ← number_at w64 bytes
  client ← name_at number.1
  Some ((number.0, client.0), client.1)

-- a text that is not empty
unfoldable pub given_at : Reader (List ℕ)
given_at bytes = do
  text ← text_at bytes
  if nat_lt 0 (length text.0) then Some text else None

-- a durable name: that of its client, and its own
unfoldable pub full_name_at : Reader Name
full_name_at bytes = do
  client ← given_at bytes
  own ← given_at client.1
  Some ((client.0, own.0), own.1)

-- a durable name with its topic and its line
unfoldable pub durable_at : Reader (Name × (List ℕ × List Message))
durable_at bytes = do
  client ← given_at bytes
  own ← given_at client.1
  topic ← destination_at own.1
  waiting ← waiting_at topic.1
  Some (((client.0, own.0), (topic.0, waiting.0)), waiting.1)

unfoldable pub queue_at : Reader (List ℕ × List Message)
queue_at bytes = do
  destination ← destination_at bytes
  waiting ← waiting_at destination.1
  Some ((destination.0, waiting.0), waiting.1)

-- subscriptions

-- the durable name of a subscription, of which its own part was read, with the name of the session's client, which is known
abbrev pub named_by : Option (List ℕ) → Option (List ℕ) → Option (Option Name)
named_by client None = Some None
named_by None (Some own) = None
named_by (Some client) (Some own) = Some (Some (client, own))

-- the line of a subscription's own, if it has one
abbrev pub own_line_at : Bool → Reader (List Message)
own_line_at true bytes = waiting_at bytes
own_line_at false bytes = Some ([], bytes)

-- its session, id, destination and mode
unfoldable pub front_at : Reader (ℕ × List ℕ × List ℕ × AckMode)
front_at bytes = do
  session ← number_at w64 bytes
  id ← text_at session.1
  destination ← destination_at id.1
  mode ← mode_at destination.1
  Some ((session.0, id.0, destination.0, mode.0), mode.1)

-- its durable name, of which its own part is read
unfoldable pub durable_name_at : Option (List ℕ) → Reader (Option Name)
durable_name_at client bytes = do
  own ← name_at bytes
  durable ← named_by client own.0
  Some (durable, own.1)

-- the line of its own, if it has one, and what is not acknowledged
unfoldable pub had_at : Bool → Reader (List Message × List (ℕ × Message))
had_at own bytes = do
  waiting ← own_line_at own bytes
  unacknowledged ← keyed_at nat_cmp delivery_at waiting.1
  Some ((waiting.0, unacknowledged.0), unacknowledged.1)

unfoldable pub subscription_at : List (ℕ × Option (List ℕ)) → Reader Subscription
subscription_at sessions bytes = do
  session ← number_at w64 bytes
  id ← text_at session.1
  destination ← destination_at id.1
  mode ← mode_at destination.1
  own ← name_at mode.1
  durable ← named_by (client_in sessions session.0) own.0
  waiting ← own_line_at (not (is_some durable || is_queue destination.0)) own.1
  unacknowledged ← keyed_at nat_cmp delivery_at waiting.1
  Some (record { session = session.0; id = id.0; destination = destination.0; mode = mode.0; durable = durable; line = waiting.0; unacknowledged = unacknowledged.0 }, unacknowledged.1)

-- states

-- the lines with messages, under the names that were read
abbrev pub lines_of : List (Name × (List ℕ × List Message)) → Lines Name
lines_of [] = []
lines_of (e ∷ entries) = if is_none e.1.1 then lines_of entries else (e.0, e.1.1) ∷ lines_of entries

unfoldable pub state_at : Reader State
state_at bytes = do
  count ← number_at w64 bytes
  next ← number_at w64 count.1
  sessions ← keyed_at nat_cmp session_at next.1
  names ← keyed_at name_cmp durable_at sessions.1
  queues ← keyed_at text_cmp queue_at names.1
  subscriptions ← listed_at (subscription_at sessions.0) queues.1
  Some (record { count = count.0; next_delivery = next.0; sessions = sessions.0; durables = map (λ (e : Name × (List ℕ × List Message)). (e.0, e.1.0)) names.0; shared = record { names = lines_of names.0; queues = queues.0 }; subscriptions = subscriptions.0 }, subscriptions.1)
