-- Which sessions of a journal are open, and what they subscribe to.
use Rattle.std.specs.Prelude.{◌≡◌, List, [], ◌++◌, ℕ, Option, None, Some, codes, length}
use Rattle.std.specs.Fmt.{decimal}
use Rattle.std.specs.Io.KnownBytes.{Appends}
use Rattle.std.specs.List.{flat_map}
use Rattle.command_core.specs.declared.command.AckMode.{AckMode}
use Rattle.command_core.specs.declared.command.AckMode.TheVariants.{Auto, Client, ClientIndividual}
use Rattle.script_text.specs.PercentTexts.{encoded}
use Rattle.broker_state.specs.declared.subscription.Subscription.{Subscription}
use Rattle.broker_state.specs.Names.{Name}
use Rattle.broker_state.specs.States.{State}
use Rattle.recover_core.specs.Standing.{Stands}

-- how a subscription acknowledges (STOMP 1.2, "SUBSCRIBE ack Header")
abbrev pub mode_text : AckMode → List ℕ
mode_text Auto = codes "auto"
mode_text Client = codes "client"
mode_text ClientIndividual = codes "client-individual"

-- the name of a session's client, if it has one
abbrev pub client_text : Option (List ℕ) → List ℕ
client_text None = []
client_text (Some name) = codes " client-id:" ++ encoded name

-- the line of a session, by its number
abbrev pub session_line : ℕ × Option (List ℕ) → List ℕ
session_line session = codes "session " ++ (decimal session.0 ++ (client_text session.1 ++ codes "\n"))

-- the name under which a subscription's messages are kept, if it has one
abbrev pub durable_text : Option Name → List ℕ
durable_text None = []
durable_text (Some name) = codes " activemq.subscriptionName:" ++ encoded name.1

-- whose a subscription is, and what it gets
abbrev pub target_text : Subscription → List ℕ
target_text sub = codes "subscription " ++ (decimal sub.session ++ (codes " id:" ++ (encoded sub.id ++ (codes " destination:" ++ encoded sub.destination))))

-- how it gets that, and how many deliveries are not acknowledged
abbrev pub standing_text : Subscription → List ℕ
standing_text sub = codes " ack:" ++ (mode_text sub.mode ++ (durable_text sub.durable ++ (codes " unacknowledged:" ++ (decimal (length sub.unacknowledged) ++ codes "\n"))))

-- its line
abbrev pub subscription_line : Subscription → List ℕ
subscription_line sub = target_text sub ++ standing_text sub

-- a line for each open session by rising number, and then one for each subscription in waiting order
abbrev pub sessions_text : State → List ℕ
sessions_text s = flat_map session_line s.sessions ++ flat_map subscription_line s.subscriptions

-- what the sessions of some journal are was written
abbrev pub ShowsSessions : Option (List ℕ) → Option (List ℕ) → Type 0
ShowsSessions before after = (s : State) × Appends before after (sessions_text s)

-- the same for the journal of this content
abbrev pub ShowsSessionsIn : List ℕ → Option (List ℕ) → Option (List ℕ) → Type 0
ShowsSessionsIn content before after = (s : State) × Stands content s × Appends before after (sessions_text s)
