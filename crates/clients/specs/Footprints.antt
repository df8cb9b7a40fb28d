-- What a session adds to each snapshot of the broker, beside the messages that are held.
use Rattle.std.specs.Prelude.{◌≤◌, ◌+◌, ℕ, List, [], ◌∷◌, ◌++◌, Bool, false, Option, Some, None, filter, max, not, take}
use Rattle.std.specs.List.{list_any, sum_by}
use Rattle.std.specs.Str.{bytes_eq}
use Rattle.command_core.specs.declared.command.Op.{Op}
use Rattle.command_core.specs.declared.command.Op.TheVariants as ops
use Rattle.command_core.specs.PartSizes.{option_size, text_size}
use Rattle.clients.specs.declared.footprint.Cut.{Cut}
use Rattle.clients.specs.declared.footprint.Cut.TheVariants as cuts
use Rattle.clients.specs.declared.footprint.Part.{Part}

abbrev pub part : Option (List ℕ) → ℕ → Part
part id bytes = record { id = id; bytes = bytes }

-- The bytes of an open session in a snapshot: its number, of 8 bytes, and its client's name.
abbrev pub session_size : Option (List ℕ) → ℕ
session_size client_id = 8 + option_size client_id

-- The bytes of a subscription in a snapshot, at most, without the messages that it holds: its session's number, of 8 bytes; its id and its
-- destination; its mode, of one byte; its own part of a durable name; and two counts of messages, of 4 bytes each. These are the messages
-- that wait in a line of its own, which it may not have, and those that it has not acknowledged.
abbrev pub subscription_size : List ℕ → List ℕ → Option (List ℕ) → ℕ
subscription_size id destination durable = 8 + text_size id + text_size destination + 1 + option_size durable + (4 + 4)

-- what a command adds to a snapshot: an Open its session, and a SUBSCRIBE its subscription
abbrev pub parts_of : Op → List Part
parts_of (ops.Open client_id) = part None (session_size client_id) ∷ []
parts_of (ops.Subscribe id destination mode durable) = part (Some id) (subscription_size id destination durable) ∷ []
parts_of _ = []

-- a subscription of that id
abbrev pub has_id : Option (List ℕ) → Option (List ℕ) → Bool
has_id None id = false
has_id (Some own) None = false
has_id (Some own) (Some id) = bytes_eq own id

-- an UNSUBSCRIBE of its id ends a subscription
abbrev pub is_ended_by : Op → Part → Bool
is_ended_by (ops.Unsubscribe id durable) one = has_id one.id id
is_ended_by _ one = false

-- what stands of a session's commands: what each of them adds, unless a later one ends it
abbrev pub standing : List Op → List Part
standing [] = []
standing (op ∷ later) = filter (λ one. not (list_any (λ op. is_ended_by op one) later)) (parts_of op) ++ standing later

abbrev pub total : List Part → ℕ
total parts = sum_by (λ (one : Part). one.bytes) parts

-- how many bytes a session has in a snapshot by these commands, which it has said
abbrev pub footprint : List Op → ℕ
footprint ops = total (standing ops)

-- after each of these commands the session keeps within so many bytes
abbrev pub IsWithin : ℕ → List Op → Type 0
IsWithin most ops = (k : ℕ) → footprint (take k ops) ≤ most

-- what stands after one more command
abbrev pub charged : List Part → Op → List Part
charged parts (ops.Open client_id) = parts ++ parts_of (ops.Open client_id)
charged parts (ops.Subscribe id destination mode durable) = parts ++ parts_of (ops.Subscribe id destination mode durable)
charged parts (ops.Unsubscribe id durable) = filter (λ one. not (has_id one.id id)) parts
charged parts _ = parts

-- What stands of a session; how many bytes its desk counts for that; how many it may have now; how many all sessions of its desk may have
-- together; and why acts of it were cut off, if they were.
pub record FootprintValue : Type 0 where
  pub parts : List Part
  pub counted : ℕ
  pub room : ℕ
  pub limit : ℕ
  pub cut : Cut

-- what stands is counted, and is within what it may have, as that is within what all may have
pub record IsFootprint (f : FootprintValue) : Type 0 where
  pub stands : total f.parts ≤ f.counted
  pub fits : f.counted ≤ f.room
  pub least : f.room ≤ f.limit

abbrev pub none_standing : ℕ → FootprintValue
none_standing limit = record { parts = []; counted = 0; room = limit; limit = limit; cut = cuts.No }

-- A command is to be appended. What an UNSUBSCRIBE ends is counted until it was appended.
abbrev pub spent : FootprintValue → Op → FootprintValue
spent f op = record f { parts = charged f.parts op; counted = max f.counted (total (charged f.parts op)) }

-- it was appended
abbrev pub settled : FootprintValue → FootprintValue
settled f = record f { counted = total f.parts }
