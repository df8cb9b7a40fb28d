use Rattle.std.specs.Prelude.{◌&&◌, ◌==◌, List, [], ◌∷◌, ◌++◌, ℕ, Bool, false, not, Option, Some, None, Result, Ok, Err, count_by, filter, fold, is_some, length, map, nat_le, unwrap_or, if◌then◌else◌}
use Rattle.std.specs.BTreeMap.{insert_entry, is_at}
use Rattle.std.specs.List.{list_any}
use Rattle.std.specs.Map.{lookup, remove_entry}
use Rattle.std.specs.Ordering.{nat_cmp}
use Rattle.std.specs.Str.{bytes_eq}
use Rattle.command_core.specs.declared.command.AckMode.{AckMode}
use Rattle.command_core.specs.declared.fault.Fault.{Fault}
use Rattle.command_core.specs.declared.fault.Fault.TheVariants.{SubscriptionIdInUse, UnknownSubscription, UnknownAcknowledgement, NoRoom, NoClientId, DurableSubscription, TooManyEntries}
use Rattle.command_core.specs.Destinations.{is_queue}
use Rattle.command_core.specs.Sendings.{SendingValue}
use Rattle.line_core.specs.declared.message.Message.{Message}
use Rattle.line_core.specs.Flights.{has_delivery, unsettled}
use Rattle.line_core.specs.Lines.{inserted}
use Rattle.broker_state.specs.declared.subscription.Subscription.{Subscription}
use Rattle.broker_state.specs.Lists.{picked, with_first}
use Rattle.broker_state.specs.States.{State, held_bytes, held_messages}
use Rattle.broker_state.specs.Names.{Name, name_cmp, text_cmp}
use Rattle.broker_state.specs.Waiting.{Lines, is_own, returned, with_message}

-- The message of a SEND: the number of its command, and its place among the members of that command.
abbrev pub message_of : ℕ → ℕ → SendingValue → Message
message_of command place sending = record { number = record { command = command; place = place }; sending = sending }

-- a subscription of the message's topic with a line of its own gets a copy into it
abbrev pub copied : Message → Subscription → Subscription
copied m sub = if is_own sub && bytes_eq sub.destination m.sending.destination then record sub { line = inserted m sub.line } else sub

-- each durable name of the message's topic gets a copy into its line, whether somebody listens or not
abbrev pub copied_to_names : Message → List (Name × List ℕ) → Lines Name → Lines Name
copied_to_names m durables names =
    fold (λ more durable. if bytes_eq durable.1 m.sending.destination then with_message name_cmp durable.0 m more else more) names durables

-- A message to a queue goes into the queue's line, one to a topic into the lines of the durable names and of the
-- subscriptions of that topic.
abbrev pub fanned_out : State → Message → State
fanned_out s m =
    if is_queue m.sending.destination then record s { shared = record s.shared { queues = with_message text_cmp m.sending.destination m s.shared.queues } }
    else record s { shared = record s.shared { names = copied_to_names m s.durables s.shared.names }; subscriptions = map (copied m) s.subscriptions }

-- at most 4,096 messages and 16,777,216 bytes are held
abbrev pub is_within : State → Bool
is_within s = nat_le (held_messages s) 4096 && nat_le (held_bytes s) 16777216

-- A SEND is accepted if all its copies find room, before any is handed out (STOMP 1.2, "SEND").
abbrev pub sent : State → ℕ → SendingValue → Result State Fault
sent s place sending =
    let t = fanned_out s (message_of s.count place sending) in
    if is_within t then Ok t else Err NoRoom

-- the subscription is one of that session
abbrev pub is_of : ℕ → Subscription → Bool
is_of session sub = session == sub.session

-- the subscription is the one of that session and id
abbrev pub is_named : ℕ → List ℕ → Subscription → Bool
is_named session id sub = is_of session sub && bytes_eq id sub.id

-- the client-id of a session, if it has one
abbrev pub client_in : List (ℕ × Option (List ℕ)) → ℕ → Option (List ℕ)
client_in sessions session = unwrap_or (lookup (is_at (nat_cmp session)) sessions) None

abbrev pub client_of : State → ℕ → Option (List ℕ)
client_of s session = client_in s.sessions session

-- the topic to which a durable name is bound, if it is
abbrev pub topic_of : Name → List (Name × List ℕ) → Option (List ℕ)
topic_of name durables = lookup (is_at (name_cmp name)) durables

-- the subscription is that of the durable name
abbrev pub uses : Name → Subscription → Bool
uses name sub = elim sub.durable as (λ o. Bool) [ None ↦ false | Some other ↦ bytes_eq name.0 other.0 && bytes_eq name.1 other.1 ]

-- a subscription with nothing in its line
abbrev pub fresh : ℕ → List ℕ → List ℕ → AckMode → Option Name → Subscription
fresh session id destination mode name =
    record { session = session; id = id; destination = destination; mode = mode; durable = name; line = []; unacknowledged = [] }

-- the state with one more subscription, which waits last
abbrev pub with_subscription : State → Subscription → State
with_subscription s sub = record s { subscriptions = s.subscriptions ++ sub ∷ [] }

-- a durable name that is bound is used again, if nobody uses it and its topic is the subscription's
abbrev pub used_again : State → Subscription → Name → List ℕ → Result State Fault
used_again s sub name topic =
    if bytes_eq topic sub.destination && not (list_any (uses name) s.subscriptions) then Ok (with_subscription s sub) else Err DurableSubscription

-- one that isn't is bound to the subscription's topic; there are at most 256
abbrev pub bound : State → Subscription → Name → Result State Fault
bound s sub name =
    if nat_le 256 (length s.durables) then Err TooManyEntries
    else Ok (with_subscription (record s { durables = insert_entry name_cmp s.durables name sub.destination }) sub)

-- a subscription begins under that durable name
abbrev pub begun_under : State → Subscription → Name → Result State Fault
begun_under s sub name = elim (topic_of name s.durables) as (λ o. Result State Fault) [ None ↦ bound s sub name | Some topic ↦ used_again s sub name topic ]

-- a subscription begins, under its durable name if it has one
abbrev pub begun_by : State → Subscription → Option Name → Result State Fault
begun_by s sub None = Ok (with_subscription s sub)
begun_by s sub (Some name) = begun_under s sub name

abbrev pub begun : State → Subscription → Result State Fault
begun s sub = begun_by s sub sub.durable

-- a durable name of a client, which has to have a name itself
abbrev pub named : Option (List ℕ) → List ℕ → Result (Option Name) Fault
named None name = Err NoClientId
named (Some client) name = Ok (Some (client, name))

-- the durable name of a client's subscription, if one is given; for a queue it is left out
abbrev pub name_for : Option (List ℕ) → List ℕ → Option (List ℕ) → Result (Option Name) Fault
name_for client destination None = Ok None
name_for client destination (Some name) = if is_queue destination then Ok None else named client name

abbrev pub begun_for : State → ℕ → List ℕ → List ℕ → AckMode → Result (Option Name) Fault → Result State Fault
begun_for s session id destination mode (Ok name) = begun s (fresh session id destination mode name)
begun_for s session id destination mode (Err fault) = Err fault

-- A SUBSCRIBE is refused if the session has a subscription of that id, or 16. The new one waits last (STOMP 1.2,
-- "SUBSCRIBE").
abbrev pub subscribed : State → ℕ → List ℕ → List ℕ → AckMode → Option (List ℕ) → Result State Fault
subscribed s session id destination mode durable =
    if list_any (is_named session id) s.subscriptions then Err SubscriptionIdInUse
    else (if nat_le 16 (count_by (is_of session) s.subscriptions) then Err TooManyEntries
    else begun_for s session id destination mode (name_for (client_of s session) destination durable))

-- the state without a subscription that has ended; a line of its own and what is unacknowledged of it vanish
abbrev pub without : State → Subscription → List Subscription → State
without s sub others = record s { shared = returned s.shared sub; subscriptions = others }

abbrev pub ended_one : State → Option (Subscription × List Subscription) → Result State Fault
ended_one s None = Err UnknownSubscription
ended_one s (Some p) = Ok (without s p.0 p.1)

-- An UNSUBSCRIBE by id ends the subscription of that id, and is refused if there is none (STOMP 1.2, "UNSUBSCRIBE").
abbrev pub unsubscribed : State → ℕ → List ℕ → Result State Fault
unsubscribed s session id = ended_one s (picked (is_named session id) s.subscriptions)

abbrev pub or_same : State → Result State Fault → State
or_same s (Ok t) = t
or_same s (Err fault) = s

-- the state without the session's subscription of that id, if an id is given and there is one
abbrev pub without_named : State → ℕ → Option (List ℕ) → State
without_named s session None = s
without_named s session (Some id) = or_same s (unsubscribed s session id)

-- the state without a durable name and its line
abbrev pub forgotten : State → Name → State
forgotten s name = record s {
  durables = remove_entry (is_at (name_cmp name)) s.durables;
  shared = record s.shared { names = remove_entry (is_at (name_cmp name)) s.shared.names };
}

-- a durable name that is known and that nobody uses is given up
abbrev pub given_up : State → Name → Result State Fault
given_up s name = if is_some (topic_of name s.durables) && not (list_any (uses name) s.subscriptions) then Ok (forgotten s name) else Err DurableSubscription

-- An UNSUBSCRIBE by durable name gives up that name of the session's client.
abbrev pub given_up_for : State → Option (List ℕ) → List ℕ → Result State Fault
given_up_for s None name = Err NoClientId
given_up_for s (Some client) name = given_up s (client, name)

-- an UNSUBSCRIBE by durable name, after the end of the subscription of that id if one is given, or by id alone
abbrev pub unsubscribed_by : State → ℕ → Option (List ℕ) → Option (List ℕ) → Result State Fault
unsubscribed_by s session id (Some name) = given_up_for (without_named s session id) (client_of s session) name
unsubscribed_by s session (Some id) None = unsubscribed s session id
unsubscribed_by s session None None = Err UnknownSubscription

-- the subscription is one of that session, and has the delivery of that number unacknowledged
abbrev pub awaits : ℕ → ℕ → Subscription → Bool
awaits session delivery sub = is_of session sub && has_delivery delivery sub.unacknowledged

-- the subscription once the delivery is acknowledged, with the others that its mode settles
abbrev pub settled_by : ℕ → Subscription → Subscription
settled_by delivery sub = record sub { unacknowledged = unsettled sub.mode delivery sub.unacknowledged }

-- An ACK settles what its session has not acknowledged, and is refused if that delivery isn't there (STOMP 1.2, "ACK").
abbrev pub acknowledged : State → ℕ → ℕ → Result State Fault
acknowledged s session delivery =
    if list_any (awaits session delivery) s.subscriptions
    then Ok (record s { subscriptions = with_first (awaits session delivery) (settled_by delivery) s.subscriptions })
    else Err UnknownAcknowledgement

-- an Open opens the session whose number is this command's number
abbrev pub opened : State → Option (List ℕ) → State
opened s client_id = record s { sessions = insert_entry nat_cmp s.sessions s.count client_id }

-- the end of a session ends its subscriptions
abbrev pub ended : State → ℕ → State
ended s session = record s {
  sessions = remove_entry (is_at (nat_cmp session)) s.sessions;
  shared = fold returned s.shared (filter (is_of session) s.subscriptions);
  subscriptions = filter (λ sub. not (is_of session sub)) s.subscriptions;
}

-- Every session ends, with all subscriptions, and nothing is handed out.
abbrev pub restarted : State → State
restarted s = record s { sessions = []; shared = fold returned s.shared s.subscriptions; subscriptions = [] }
