use Rattle.std.specs.Prelude.{◌≡◌, ◌+◌, ◌*◌, ◌||◌, ◌⊎◌, List, [], ◌∷◌, ℕ, Bool, true, false, Option, Some, None, Result, Ok, Err, codes, fold, if◌then◌else◌}
use Rattle.std.specs.Str.{bytes_eq}
use Rattle.command_core.specs.declared.fault.Fault.{Fault}
use Rattle.command_core.specs.declared.fault.Fault.TheVariants.{NoRoom}
use Rattle.line_core.specs.declared.message.Message.{Message}
use Rattle.line_core.specs.Flights.{settled, settles}
use Rattle.broker_state.specs.declared.nack_rule.NackRule.{NackRule}
use Rattle.broker_state.specs.declared.nack_rule.NackRule.TheVariants.{Drops, Keeps}
use Rattle.broker_state.specs.declared.subscription.Subscription.{Subscription}
use Rattle.broker_state.specs.Lists.{IsAmong, picked}
use Rattle.broker_state.specs.Names.{text_cmp}
use Rattle.broker_state.specs.Operations.{acknowledged, awaits, is_within, message_of}
use Rattle.broker_state.specs.States.{State}
use Rattle.broker_state.specs.Waiting.{Lines, is_own, line_at, with_message}

-- What a NACK does with the messages that it settles (STOMP 1.2, "NACK").

-- the queue of the messages that were refused
abbrev pub dead_queue : List ℕ
dead_queue = codes "/queue/dead"

-- A refused message is dropped if its subscription is a plain one of a topic, which has a line of its own, or if the
-- message was refused before.
abbrev pub is_dropped : Bool → Message → Bool
is_dropped own m = own || bytes_eq m.sending.destination dead_queue

-- a refused message as it goes to the queue of refused ones, with its headers and body as they were
abbrev pub refused : ℕ → ℕ → Message → Message
refused command place m = message_of command place (record m.sending { destination = dead_queue })

-- Of settled messages, each that isn't dropped, as it goes to the queue of refused ones. All are counted from that place
-- on, even those that are dropped.
abbrev pub refused_from : (Message → Bool) → ℕ → ℕ → List (ℕ × Message) → List Message
refused_from drops command place [] = []
refused_from drops command place (delivery ∷ deliveries) =
    let others = refused_from drops command (place + 1) deliveries in
    if drops delivery.1 then others else refused command place delivery.1 ∷ others

-- The place of the first message that a NACK settles, if the NACK has that place among the members of its command. The
-- places under 64 are those of SENDs. Each NACK has 16, as many as a subscription has unacknowledged messages at most.
abbrev pub first_place : ℕ → ℕ
first_place member = 64 + 16 * member

-- the messages that a NACK of that place among the members of its command keeps
abbrev pub kept_of : State → ℕ → ℕ → Option (Subscription × List Subscription) → List Message
kept_of s member delivery None = []
kept_of s member delivery (Some p) =
    refused_from (is_dropped (is_own p.0)) s.count (first_place member) (settled p.0.mode delivery p.0.unacknowledged)

abbrev pub kept_by_nack : State → ℕ → ℕ → ℕ → List Message
kept_by_nack s session member delivery = kept_of s member delivery (picked (awaits session delivery) s.subscriptions)

-- the lines of queues with more messages in that of refused ones, each at its place by number
abbrev pub with_refused : List Message → Lines (List ℕ) → Lines (List ℕ)
with_refused messages lines = fold (λ more m. with_message text_cmp dead_queue m more) lines messages

-- a state that keeps such messages
abbrev pub keeping : List Message → State → State
keeping messages s = record s { shared = record s.shared { queues = with_refused messages s.shared.queues } }

-- a state, if what it holds is within the limits
abbrev pub with_room : State → Result State Fault
with_room s = if is_within s then Ok s else Err NoRoom

-- what an ACK leaves, with what a NACK keeps
abbrev pub keeping_from : List Message → Result State Fault → Result State Fault
keeping_from messages (Ok s) = with_room (keeping messages s)
keeping_from messages (Err fault) = Err fault

-- A NACK settles what an ACK would settle. What it keeps then stands in the queue of refused messages, and it is refused
-- if all of that finds no room.
abbrev pub nacked : NackRule → State → ℕ → ℕ → ℕ → Result State Fault
nacked Drops s session member delivery = acknowledged s session delivery
nacked Keeps s session member delivery = keeping_from (kept_by_nack s session member delivery) (acknowledged s session delivery)

-- What has become of a delivery of a subscription after the NACK of one of them. It is not settled, or the rule drops its
-- message, or the message stands in the queue of refused messages with its headers and body.
abbrev pub IsStill : State → State → ℕ → Subscription → ℕ × Message → Type 0
IsStill s t delivery sub d =
    (settles sub.mode delivery d.0 ≡ false) ⊎ (is_dropped (is_own sub) d.1 ≡ true)
    ⊎ ((place : ℕ) × IsAmong (refused s.count place d.1) (line_at text_cmp dead_queue t.shared.queues))
