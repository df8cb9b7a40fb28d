-- Which queues and durable names of a journal hold messages.
use Rattle.std.specs.Prelude.{◌≡◌, ◌-◌, ◌^◌, List, [], ◌∷◌, ◌++◌, ℕ, Option, codes, length, map, string_bytes}
use Rattle.std.specs.Fmt.{decimal}
use Rattle.std.specs.Io.KnownBytes.{Appends}
use Rattle.std.specs.List.{flat_map, sum_by}
use Rattle.std.specs.List.Sorted.{IsNonDecreasingBy, IsPermutation}
use Rattle.line_core.specs.declared.message.Message.{Message}
use Rattle.script_text.specs.PercentTexts.{encoded}
use Rattle.broker_state.specs.declared.limits.Held.{Held}
use Rattle.broker_state.specs.Names.{Name, name_cmp}
use Rattle.broker_state.specs.States.{State, bytes, held_bytes, held_messages}
use Rattle.broker_state.specs.Operations.{restarted}
use Rattle.broker_state.specs.Waiting.{line_at}
use Rattle.recover_core.specs.Standing.{Stands}
use Rattle.journal_files.specs.declared.held.Lot.{Lot}

-- What waits in one place: how many messages, how many bytes, and what the place is called.
pub record Waits : Type 0 where
  pub messages : ℕ
  pub bytes : ℕ
  pub place : List ℕ

abbrev pub waits_of : Lot → Waits
waits_of lot = record { messages = lot.messages; bytes = lot.bytes; place = string_bytes lot.place }

abbrev pub waits_at : List ℕ → List Message → Waits
waits_at place line = record { messages = length line; bytes = sum_by bytes line; place = place }

-- a queue by its destination, and a durable name by the names of its client and its subscription
abbrev pub queue_text : List ℕ → List ℕ
queue_text destination = codes "queue " ++ encoded destination

abbrev pub name_text : Name → List ℕ
name_text name = codes "durable client-id:" ++ (encoded name.0 ++ (codes " activemq.subscriptionName:" ++ encoded name.1))

-- What waits under durable names, perhaps nothing, and in the lines of queues.
abbrev pub names_waiting : List (Name × List ℕ) → List (Name × List Message) → List Waits
names_waiting durables lines = map (λ durable. waits_at (name_text durable.0) (line_at name_cmp durable.0 lines)) durables

abbrev pub queues_waiting : List (List ℕ × List Message) → List Waits
queues_waiting lines = map (λ line. waits_at (queue_text line.0) line.1) lines

abbrev pub all_waiting : State → List Waits
all_waiting s = names_waiting s.durables s.shared.names ++ queues_waiting s.shared.queues

-- no lot has more messages than one before it, so it is no nearer to the most that there can be
abbrev pub AreMostFirst : List Lot → Type 0
AreMostFirst lots = IsNonDecreasingBy (λ (lot : Lot). 2 ^ 64 - 1 - lot.messages) lots

-- these lots are all that waits, most messages first
pub record AreLotsOf (s : State) (lots : List Lot) : Type 0 where
  pub found : List Lot
  pub all : map waits_of found ≡ all_waiting s
  pub same : IsPermutation found lots
  pub first : AreMostFirst lots

-- one line of a lot
abbrev pub lot_line : Lot → List ℕ
lot_line lot = decimal lot.messages ++ (codes " " ++ (decimal lot.bytes ++ (codes " " ++ (string_bytes lot.place ++ codes "\n"))))

-- the totals with their limits
abbrev pub totals_text : ℕ → ℕ → List ℕ
totals_text messages held = codes "messages " ++ (decimal messages ++ (codes " of 4096\nbytes " ++ (decimal held ++ codes " of 16777216\n")))

-- what plain subscriptions of topics hold: it goes with their sessions
abbrev pub topics_text : ℕ → ℕ → List ℕ
topics_text messages held = decimal messages ++ (codes " " ++ (decimal held ++ codes " topics\n"))

-- what is held, what of it goes with the sessions, and what waits in each place
abbrev pub held_text : Held → Held → List Lot → List ℕ
held_text held gone lots = totals_text held.messages held.bytes ++ (flat_map lot_line lots ++ topics_text gone.messages gone.bytes)

-- what a state holds
abbrev pub held_in : State → Held
held_in s = record { messages = held_messages s; bytes = held_bytes s }

-- what of it goes with the sessions
abbrev pub gone_from : State → Held
gone_from s = record { messages = held_messages s - held_messages (restarted s); bytes = held_bytes s - held_bytes (restarted s) }

-- what some journal holds was written
abbrev pub ShowsHeld : Option (List ℕ) → Option (List ℕ) → Type 0
ShowsHeld before after = (held : Held) × (gone : Held) × (lots : List Lot) × Appends before after (held_text held gone lots)

-- What a journal of this state holds was written: the totals as they count against the limits, where messages wait once all sessions have
-- ended, and what goes with these. Opening the journal ends them all.
pub record ShowsHeldOf (s : State) (before after : Option (List ℕ)) : Type 0 where
  pub lots : List Lot
  pub are : AreLotsOf (restarted s) lots
  pub written : Appends before after (held_text (held_in s) (gone_from s) lots)

-- the same for the journal of this content
abbrev pub ShowsHeldIn : List ℕ → Option (List ℕ) → Option (List ℕ) → Type 0
ShowsHeldIn content before after = (s : State) × Stands content s × ShowsHeldOf s before after
