use Rattle.std.specs.Prelude.{◌≡◌, ◌<◌, ◌==◌, List, ℕ, Bool, length, slice_index_or, not, leb, map}
use Rattle.std.specs.List.{AllByRecursion, filter, list_any}
use Rattle.std.specs.List.Sorted.{IsStrictlySortedBy}
use Rattle.std.specs.Map.{keys_of}
use Rattle.std.specs.Ordering.{nat_cmp}
use Rattle.command_core.specs.declared.command.AckMode.{AckMode}
use Rattle.command_core.specs.declared.command.AckMode.TheVariants.{Auto, Client, ClientIndividual}

-- the deliveries stand by rising number, each number once
abbrev pub IsRising : {X : Type 0} → List (ℕ × X) → Type 0
IsRising flight = IsStrictlySortedBy nat_cmp (keys_of flight)

-- the number is over those of all deliveries
abbrev pub IsOver : {X : Type 0} → ℕ → List (ℕ × X) → Type 0
IsOver delivery flight = AllByRecursion (λ item. item.0 < delivery) flight

-- the delivery at that place has that number
abbrev pub StandsAt : {X : Type 0} → ℕ → ℕ → List (ℕ × X) → Type 0
StandsAt {X} place delivery flight = (place < length flight) × ((item : ℕ × X) → (slice_index_or flight place item).0 ≡ delivery)

-- whether a delivery of that number waits for its acknowledgement
abbrev pub has_delivery : {X : Type 0} → ℕ → List (ℕ × X) → Bool
has_delivery delivery flight = list_any (λ item. item.0 == delivery) flight

-- Whether the acknowledgement of a delivery settles the one of that number: with `client` each up to the acknowledged
-- one, else that one alone (STOMP 1.2, "SUBSCRIBE", header `ack`, and "ACK").
abbrev pub settles : AckMode → ℕ → ℕ → Bool
settles Client delivery number = leb number delivery
settles ClientIndividual delivery number = number == delivery
settles Auto delivery number = number == delivery

-- the deliveries that an acknowledgement settles, in their order
abbrev pub settled : {X : Type 0} → AckMode → ℕ → List (ℕ × X) → List (ℕ × X)
settled mode delivery flight = filter (λ item. settles mode delivery item.0) flight

-- the deliveries that it leaves, in their order
abbrev pub unsettled : {X : Type 0} → AckMode → ℕ → List (ℕ × X) → List (ℕ × X)
unsettled mode delivery flight = filter (λ item. not (settles mode delivery item.0)) flight

-- the same deliveries, with something else for each item
abbrev pub mapped : {X Y : Type 0} → (X → Y) → List (ℕ × X) → List (ℕ × Y)
mapped f flight = map (λ item. (item.0, f item.1)) flight
