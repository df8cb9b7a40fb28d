-- Which sessions of a journal are open, and what they subscribe to, as a JSON object.
use Rattle.std.specs.Prelude.{◌++◌, List, ℕ, None, Option, Some, codes, length}
use Rattle.std.specs.List.{flat_map}
use Rattle.json.specs.Token.{Token}
use Rattle.broker_state.specs.declared.subscription.Subscription.{Subscription}
use Rattle.broker_state.specs.Names.{Name}
use Rattle.broker_state.specs.States.{State}
use Rattle.recover_core.specs.Standing.{Stands}
use Rattle.json_line.specs.Objects.{WritesLine, list_member, number_member, object_of, option_member, text_member}
use Rattle.journal_files.specs.Sessions.{mode_text}

-- a session by its number, with the name of its client
abbrev pub session_object : ℕ × Option (List ℕ) → List Token
session_object session = object_of (number_member (codes "session") session.0 ++ option_member (codes "client-id") session.1)

-- whose a subscription is, and what it gets
abbrev pub target_members : Subscription → List Token
target_members sub = number_member (codes "session") sub.session ++ (text_member (codes "id") sub.id ++ text_member (codes "destination") sub.destination)

-- the name under which its messages are kept, if it has one
abbrev pub durable_name : Option Name → Option (List ℕ)
durable_name None = None
durable_name (Some name) = Some name.1

-- how it gets its messages, and how many deliveries are not acknowledged
abbrev pub standing_members : Subscription → List Token
standing_members sub =
    text_member (codes "ack") (mode_text sub.mode) ++ (option_member (codes "activemq.subscriptionName") (durable_name sub.durable)
    ++ number_member (codes "unacknowledged") (length sub.unacknowledged))

abbrev pub subscription_object : Subscription → List Token
subscription_object sub = object_of (target_members sub ++ standing_members sub)

-- the open sessions by rising number, and the subscriptions in waiting order
abbrev pub sessions_object : State → List Token
sessions_object s = object_of (list_member (codes "sessions") (flat_map session_object s.sessions) ++ list_member (codes "subscriptions") (flat_map subscription_object s.subscriptions))

-- what the sessions of some journal are was written
abbrev pub ShowsSessionsObject : Option (List ℕ) → Option (List ℕ) → Type 0
ShowsSessionsObject before after = (s : State) × WritesLine (sessions_object s) before after

-- the same for the journal of this content
abbrev pub ShowsSessionsObjectIn : List ℕ → Option (List ℕ) → Option (List ℕ) → Type 0
ShowsSessionsObjectIn content before after = (s : State) × Stands content s × WritesLine (sessions_object s) before after
