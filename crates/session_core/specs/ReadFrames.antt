use Rattle.std.specs.Prelude.{◌<◌, ◌≤◌, List, ◌∷◌, ℕ, Option, Some, None, Result, Ok, Err, Bool, true, false, cond, length, codes}
use Rattle.std.specs.List.{AllByRecursion}
use Rattle.std.specs.Str.{bytes_eq}
use Rattle.frame_core.specs.declared.frame.Frame.{Frame}
use Rattle.frame_core.specs.declared.frame.Verb.{Verb}
use Rattle.frame_core.specs.declared.frame.Verb.TheVariants.{Connect, Stomp}
use Rattle.frame_core.specs.Writable.{first_of}
use Rattle.command_core.specs.declared.command.AckMode.{AckMode}
use Rattle.command_core.specs.declared.command.AckMode.TheVariants.{Auto, Client, ClientIndividual}
use Rattle.command_core.specs.declared.fault.Fault.{Fault}
use Rattle.command_core.specs.declared.fault.Fault.TheVariants.{MissingHeader, BadHeaderValue}
use Rattle.command_core.specs.Destinations.{is_queue}
use Rattle.command_core.specs.Texts.{IsHeaderText}
use Rattle.session_core.specs.Numbers.{decimal_value}

-- a header as the reader gives it: with a name, and texts that fit into a header
pub record IsReadHeader (h : List ℕ × List ℕ) : Type 0 where
  pub named : 0 < length h.0
  pub name : IsHeaderText h.0
  pub value : IsHeaderText h.1

-- a frame within the limits of the reader
pub record IsRead (frame : Frame) : Type 0 where
  pub each : AllByRecursion IsReadHeader frame.headers
  pub few : length frame.headers ≤ 64
  pub short : length frame.body ≤ 65536

-- CONNECT or STOMP, which are treated alike (STOMP 1.2, "CONNECT or STOMP Frame")
abbrev pub is_connect : Verb → Bool
is_connect Connect = true
is_connect Stomp = true
is_connect _ = false

-- the receipt that a frame asks for; CONNECT and STOMP get none (STOMP 1.2, "Header receipt")
abbrev pub receipt_of : Frame → Option (List ℕ)
receipt_of frame = cond (is_connect frame.verb) None (first_of (codes "receipt") frame.headers)

-- a text that isn't empty
abbrev pub some_text : Option (List ℕ) → Option (List ℕ)
some_text (Some (b ∷ text)) = Some (b ∷ text)
some_text _ = None

-- the name of the durable subscription that a frame speaks of: an empty one counts as absent
abbrev pub durable_of : Frame → Option (List ℕ)
durable_of frame = some_text (first_of (codes "activemq.subscriptionName") frame.headers)

-- the durable name that a SUBSCRIBE to this destination asks for: it is left out for a queue
abbrev pub durable_at : List ℕ → Frame → Option (List ℕ)
durable_at to frame = cond (is_queue to) None (durable_of frame)

-- how messages are acknowledged: `auto` (also if nothing is said), `client` or `client-individual` (STOMP 1.2, "SUBSCRIBE ack Header")
abbrev pub mode_of : Option (List ℕ) → Option AckMode
mode_of None = Some Auto
mode_of (Some text) =
    cond (bytes_eq text (codes "auto")) (Some Auto) (cond (bytes_eq text (codes "client")) (Some Client) (cond (bytes_eq text (codes "client-individual")) (Some ClientIndividual) None))

abbrev pub number_or_fault : Option ℕ → Result ℕ Fault
number_or_fault None = Err BadHeaderValue
number_or_fault (Some n) = Ok n

abbrev pub number_in : Option (List ℕ) → Result ℕ Fault
number_in None = Err MissingHeader
number_in (Some text) = number_or_fault (decimal_value text)

-- the delivery that an ACK or NACK speaks of, by its `id` (STOMP 1.2, "ACK")
abbrev pub delivery_of : Frame → Result ℕ Fault
delivery_of frame = number_in (first_of (codes "id") frame.headers)
