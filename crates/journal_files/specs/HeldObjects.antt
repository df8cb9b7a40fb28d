-- What a journal holds, as a JSON object.
use Rattle.std.specs.Prelude.{◌++◌, List, [], ◌∷◌, ℕ, Option, codes, length}
use Rattle.std.specs.List.{flat_map, sum_by}
use Rattle.json.specs.Token.{Token, key}
use Rattle.line_core.specs.declared.message.Message.{Message}
use Rattle.broker_state.specs.declared.limits.Held.{Held}
use Rattle.broker_state.specs.Names.{Name, name_cmp}
use Rattle.broker_state.specs.Operations.{restarted}
use Rattle.broker_state.specs.States.{State, bytes}
use Rattle.broker_state.specs.Waiting.{line_at}
use Rattle.recover_core.specs.Standing.{Stands}
use Rattle.journal_files.specs.Held.{gone_from, held_in}
use Rattle.json_line.specs.Objects.{WritesLine, list_member, number_member, object_of, text_member}

-- so many messages, and so many bytes
abbrev pub amount_members : ℕ → ℕ → List Token
amount_members messages held = number_member (codes "messages") messages ++ number_member (codes "bytes") held

-- those of a line
abbrev pub line_members : List Message → List Token
line_members line = amount_members (length line) (sum_by bytes line)

-- a queue, and what waits in it
abbrev pub queue_object : List ℕ × List Message → List Token
queue_object queue = object_of (text_member (codes "destination") queue.0 ++ line_members queue.1)

-- a durable name, with its topic
abbrev pub durable_members : Name × List ℕ → List Token
durable_members durable =
    text_member (codes "client-id") durable.0.0 ++ (text_member (codes "activemq.subscriptionName") durable.0.1 ++ text_member (codes "destination") durable.1)

-- what waits under it, perhaps nothing
abbrev pub name_object : List (Name × List Message) → Name × List ℕ → List Token
name_object lines durable = object_of (durable_members durable ++ line_members (line_at name_cmp durable.0 lines))

-- all that waits in queues and under durable names, by rising names
abbrev pub queues_member : State → List Token
queues_member s = list_member (codes "queues") (flat_map queue_object s.shared.queues)

abbrev pub names_member : State → List Token
names_member s = list_member (codes "durables") (flat_map (name_object s.shared.names) s.durables)

-- a total, and its limit
abbrev pub limited_members : List ℕ → ℕ → List ℕ → ℕ → List Token
limited_members name n limit_name limit = number_member name n ++ number_member limit_name limit

abbrev pub totals_members : Held → List Token
totals_members held =
    limited_members (codes "messages") held.messages (codes "messages_limit") 4096
    ++ limited_members (codes "bytes") held.bytes (codes "bytes_limit") 16777216

-- what plain subscriptions of topics hold: it goes with their sessions
abbrev pub topics_member : Held → List Token
topics_member gone = key (codes "topics") ∷ object_of (amount_members gone.messages gone.bytes)

-- What a journal of this state holds: the totals as they count against the limits, where messages wait once all sessions have ended, and what
-- goes with these.
abbrev pub held_object : State → List Token
held_object s = object_of (totals_members (held_in s) ++ (queues_member (restarted s) ++ (names_member (restarted s) ++ topics_member (gone_from s))))

-- what some journal holds was written
abbrev pub ShowsHeldObject : Option (List ℕ) → Option (List ℕ) → Type 0
ShowsHeldObject before after = (s : State) × WritesLine (held_object s) before after

-- the same for the journal of this content
abbrev pub ShowsHeldObjectIn : List ℕ → Option (List ℕ) → Option (List ℕ) → Type 0
ShowsHeldObjectIn content before after = (s : State) × Stands content s × WritesLine (held_object s) before after
