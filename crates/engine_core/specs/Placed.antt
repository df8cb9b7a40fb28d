-- Commands in the ring, each at a ticket of a seat's own.
use Rattle.std.specs.Prelude.{◌≡◌, ◌+◌, ◌<◌, ℕ, List, map, set}
use mathlib.Core.Option.{some}
use lib.ListN.{get_elem?}
use Rattle.atomic_table.specs.Seated.{TableId}
use Rattle.command_core.specs.Commands.{CommandValue}
use Rattle.claim_core.specs.Seats.{FlushSeatValue, SessionSeatValue, with_seen}
use Rattle.claim_core.specs.Endings.{Agree}
use Rattle.engine_core.specs.declared.command_queue.Waiting.{Waiting}

-- the waiting commands
abbrev pub commands_of : List Waiting → List CommandValue
commands_of waiting = map (λ w. w.command) waiting

-- the seats are at this ring
abbrev pub AreSeatsOf : TableId → List SessionSeatValue → Type 0
AreSeatsOf ring seats = (j : ℕ) (seat : SessionSeatValue) → get_elem? seats j ≡ some seat → seat.ring ≡ ring

-- the seat at this place has the command at this ticket
pub record IsOwn (seats : List SessionSeatValue) (place ticket : ℕ) (command : CommandValue) : Type 0 where
  pub seat : SessionSeatValue
  pub at : get_elem? seats place ≡ some seat
  pub k : ℕ
  pub own : get_elem? seat.own k ≡ some (ticket, command)

-- each of these commands belongs to its connection's seat, at tickets one after another, from the first on
abbrev pub ArePlaced : ℕ → List SessionSeatValue → List Waiting → Type 0
ArePlaced first seats waiting = (i : ℕ) (w : Waiting) → get_elem? waiting i ≡ some w → IsOwn seats w.connection (first + i) w.command

-- each of these commands belongs to its connection's seat
abbrev pub AreOwn : List SessionSeatValue → List Waiting → Type 0
AreOwn seats waiting = (i : ℕ) (w : Waiting) → get_elem? waiting i ≡ some w → (ticket : ℕ) × IsOwn seats w.connection ticket w.command

-- each of the seats knows of the same history as the flusher's
abbrev pub AgreeAll : FlushSeatValue → List SessionSeatValue → Type 0
AgreeAll flush seats = (j : ℕ) (seat : SessionSeatValue) → get_elem? seats j ≡ some seat → Agree seat flush

-- the seat at this place has read a mark over that number, and no other seat has done anything
pub record IsReadBy (place number : ℕ) (old new : List SessionSeatValue) : Type 0 where
  pub seat : SessionSeatValue
  pub at : get_elem? old place ≡ some seat
  pub mark : ℕ
  pub under : number < mark
  pub is : new ≡ set old place (with_seen seat mark)
