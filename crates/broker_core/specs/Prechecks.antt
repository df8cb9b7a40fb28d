use Rattle.std.specs.Prelude.{◌≡◌, ◌≤◌, ◌+◌, List, ℕ, Bool, Some, None, Result, Ok, Err, filter, length, map, if◌then◌else◌}
use Rattle.std.specs.List.{sum_by}
use Rattle.std.specs.List.Sorted.{IsStrictlySortedBy}
use Rattle.std.specs.Map.{keys_of}
use Rattle.command_core.specs.declared.fault.Fault.{Fault}
use Rattle.line_core.specs.declared.message.Message.{Message}
use Rattle.line_core.specs.Flights.{has_delivery, mapped, settled, unsettled}
use Rattle.broker_state.specs.declared.subscription.Subscription.{Subscription}
use Rattle.broker_core.specs.declared.precheck.Precheck.{Precheck}
use Rattle.broker_core.specs.declared.precheck.PrecheckFlight.{PrecheckFlight}
use Rattle.broker_core.specs.declared.precheck.PrecheckSize.{PrecheckSize}
use Rattle.broker_state.specs.Dead.{is_dropped}
use Rattle.broker_state.specs.Lists.{picked}
use Rattle.broker_state.specs.Operations.{is_of}
use Rattle.broker_state.specs.Parts.{copies_to}
use Rattle.broker_state.specs.States.{State, bytes, held_bytes, held_messages}
use Rattle.broker_state.specs.Names.{Name, name_cmp, text_cmp}
use Rattle.broker_state.specs.Waiting.{is_own}
use Rattle.broker_tables.specs.Refusals.{refused_bytes}

-- a message's bytes, and those that it has in the queue of refused ones, unless it is dropped once it is refused
abbrev pub sized : Bool → Message → PrecheckSize
sized own m = record { bytes = bytes m; refused = if is_dropped own m then None else Some (refused_bytes m) }

-- a subscription with the sizes of its deliveries in place of their messages
abbrev pub flight_of : Subscription → PrecheckFlight
flight_of sub = record { mode = sub.mode; deliveries = mapped (sized (is_own sub)) sub.unacknowledged }

-- the subscriptions of a session in that form, in waiting order
abbrev pub flights_of : ℕ → List Subscription → List PrecheckFlight
flights_of session subs = map flight_of (filter (is_of session) subs)

-- the flight has the delivery of that number
abbrev pub has : ℕ → PrecheckFlight → Bool
has delivery flight = has_delivery delivery flight.deliveries

-- the flight once the delivery is acknowledged
abbrev pub left_by : ℕ → PrecheckFlight → PrecheckFlight
left_by delivery flight = record flight { deliveries = unsettled flight.mode delivery flight.deliveries }

-- how many deliveries there are in flights, and how many bytes they have
abbrev pub deliveries_in : List PrecheckFlight → ℕ
deliveries_in flights = sum_by (λ flight. length flight.deliveries) flights

abbrev pub bytes_in : List PrecheckFlight → ℕ
bytes_in flights = sum_by (λ flight. sum_by (λ item. item.1.bytes) flight.deliveries) flights

-- how many of some deliveries are kept once they are refused, and how many bytes they have then
abbrev pub one_kept : PrecheckSize → ℕ
one_kept size = elim size.refused as (λ o. ℕ) [ None ↦ 0 | Some there ↦ 1 ]

abbrev pub bytes_kept : PrecheckSize → ℕ
bytes_kept size = elim size.refused as (λ o. ℕ) [ None ↦ 0 | Some there ↦ there ]

abbrev pub kept_in : List (ℕ × PrecheckSize) → ℕ
kept_in deliveries = sum_by (λ item. one_kept item.1) deliveries

abbrev pub kept_bytes_in : List (ℕ × PrecheckSize) → ℕ
kept_bytes_in deliveries = sum_by (λ item. bytes_kept item.1) deliveries

-- The deliveries of flights are a part of what a precheck counts as held.
pub record HoldsFlights (precheck : Precheck) : Type 0 where
  pub small : precheck.held.bytes ≤ 16777216
  pub messages : deliveries_in precheck.flights.items ≤ precheck.held.messages
  pub bytes : bytes_in precheck.flights.items ≤ precheck.held.bytes

-- Those deliveries are settled that the delivery settles in its flight, and they are held no more.
pub record SettlesFlight (delivery : ℕ) (old new : Precheck) (out : List (ℕ × PrecheckSize)) : Type 0 where
  pub settled : (flight : PrecheckFlight) (others : List PrecheckFlight) → picked (has delivery) old.flights.items ≡ Some (flight, others)
      → out ≡ settled flight.mode delivery flight.deliveries
  pub messages : new.held.messages + length out ≡ old.held.messages
  pub bytes : new.held.bytes + sum_by (λ item. item.1.bytes) out ≡ old.held.bytes

-- What a precheck stands for: the state to which the members before would have led, from a state with these subscriptions.
pub record StandsFor (session : ℕ) (durables : List (Name × List ℕ)) (subs : List Subscription) (precheck : Precheck) (s : State) : Type 0 where
  pub messages : precheck.held.messages ≡ held_messages s
  pub bytes : precheck.held.bytes ≡ held_bytes s
  pub few : precheck.held.messages ≤ 4096
  pub small : precheck.held.bytes ≤ 16777216
  pub flights : precheck.flights.items ≡ flights_of session s.subscriptions
  pub names : IsStrictlySortedBy name_cmp (keys_of s.shared.names)
  pub queues : IsStrictlySortedBy text_cmp (keys_of s.shared.queues)
  pub copies : (to : List ℕ) → copies_to to s.durables s.subscriptions ≡ copies_to to durables subs

-- A member is refused in the precheck with the fault that it is refused with. Else the precheck stands for the state that it
-- leaves.
abbrev pub Leads : ℕ → List (Name × List ℕ) → List Subscription → Precheck → Result (Unit {0}) Fault → Result State Fault → Type 0
Leads session durables subs precheck (Ok _) (Ok s) = StandsFor session durables subs precheck s
Leads session durables subs precheck (Err fault) (Err other) = fault ≡ other
Leads session durables subs precheck (Ok _) (Err fault) = ⊥
Leads session durables subs precheck (Err fault) (Ok s) = ⊥
