-- What contracts see of a ring and of its seats.
use Rattle.std.specs.Prelude.{◌≡◌, ℕ, ◌+◌, ◌*◌, ◌<◌, ◌≤◌, List, [], ◌∷◌, ◌++◌, length, map, Bool, true, false, None}
use Rattle.atomic_table.specs.Seated.{TableId}
use Rattle.command_core.specs.Commands.{CommandValue}
use Rattle.claim_core.specs.declared.views.Limits.{Limits}
use Rattle.claim_core.specs.declared.views.Claimer.{Claimer}
use Rattle.claim_core.specs.declared.views.Owner.{Owner}
use Rattle.claim_core.specs.declared.views.View.{View}
use Rattle.claim_core.specs.declared.views.View.TheVariants.{Owns, Claims, Spent}
use Rattle.claim_core.specs.Counts.{Pair, above, open_of}
use Rattle.claim_core.specs.Rule.{far}
use Rattle.claim_core.specs.Steps.{claimer, owning, next_of, Sat}

-- A session's seat: its ring, its number there, and its own commands in the order of its calls, each with its ticket.
-- It also has the mark that it read last, and whether its last append found the ring stopped.
pub record SessionSeatValue : Type 0 where
  pub ring : TableId
  pub number : ℕ
  pub own : List Pair
  pub seen : ℕ
  pub stopped : Bool

-- The flusher's seat: its ring, the ring's first ticket, and the commands that it has taken, from that ticket on. It
-- also has the mark, whether it has stopped the ring, and how many sessions' seats there are.
pub record FlushSeatValue : Type 0 where
  pub ring : TableId
  pub base : ℕ
  pub taken : List CommandValue
  pub published : ℕ
  pub stopped : Bool
  pub seats : ℕ

abbrev pub session : TableId → ℕ → List Pair → ℕ → Bool → SessionSeatValue
session ring number own seen stopped = record { ring = ring; number = number; own = own; seen = seen; stopped = stopped }

abbrev pub flushing : TableId → ℕ → List CommandValue → ℕ → Bool → ℕ → FlushSeatValue
flushing ring base taken published stopped seats = record { ring = ring; base = base; taken = taken; published = published; stopped = stopped; seats = seats }

-- the ticket after those taken
abbrev pub next_ticket : FlushSeatValue → ℕ
next_ticket f = f.base + length f.taken

-- how many of a seat's own commands are not under the mark that it read last
abbrev pub waiting : SessionSeatValue → ℕ
waiting s = above s.seen s.own

-- a seat that was not used yet
abbrev pub new_session : TableId → ℕ → ℕ → SessionSeatValue
new_session ring base number = session ring number [] base false

abbrev pub new_flushing : TableId → ℕ → ℕ → FlushSeatValue
new_flushing ring base seats = flushing ring base [] base false seats

-- what a call changes
abbrev pub with_seen : SessionSeatValue → ℕ → SessionSeatValue
with_seen s mark = session s.ring s.number s.own mark s.stopped

abbrev pub with_stop : SessionSeatValue → Bool → SessionSeatValue
with_stop s stopped = session s.ring s.number s.own s.seen stopped

abbrev pub with_own : SessionSeatValue → ℕ → CommandValue → SessionSeatValue
with_own s ticket command = session s.ring s.number (s.own ++ (ticket, command) ∷ []) s.seen s.stopped

abbrev pub with_taken : FlushSeatValue → CommandValue → FlushSeatValue
with_taken f command = flushing f.ring f.base (f.taken ++ command ∷ []) f.published f.stopped f.seats

abbrev pub with_mark : FlushSeatValue → ℕ → FlushSeatValue
with_mark f mark = flushing f.ring f.base f.taken mark f.stopped f.seats

abbrev pub when_stopped : FlushSeatValue → FlushSeatValue
when_stopped f = flushing f.ring f.base f.taken f.published true f.seats

abbrev pub with_seat : FlushSeatValue → FlushSeatValue
with_seat f = flushing f.ring f.base f.taken f.published f.stopped (f.seats + 1)

-- what a seat at the table knows, with a blank for the cases that never come
abbrev pub claimer_of : View → Claimer
claimer_of (Owns o) = claimer [] None 0 false
claimer_of (Claims c) = c
claimer_of Spent = claimer [] None 0 false

abbrev pub owner_of : View → Owner
owner_of (Owns o) = o
owner_of (Claims c) = owning 0 [] false 0 false 0 []
owner_of Spent = owning 0 [] false 0 false 0 []

abbrev pub session_value : TableId → ℕ → View → SessionSeatValue
session_value ring number v = session ring number (claimer_of v).own (claimer_of v).seen (claimer_of v).stopped

abbrev pub flush_value : TableId → View → FlushSeatValue
flush_value ring v = flushing ring (owner_of v).base (owner_of v).taken (owner_of v).published (owner_of v).stopped (owner_of v).count

-- what the table knows of a session's seat between calls, and of the flusher's seat once the sessions' seats are back
abbrev pub claimer_from : SessionSeatValue → Claimer
claimer_from s = claimer s.own None s.seen s.stopped

abbrev pub owner_with : FlushSeatValue → List SessionSeatValue → Owner
owner_with f back = owning f.base f.taken false f.published f.stopped f.seats (map claimer_from back)

-- Between calls a session's seat has no place out and no ticket pending. Its open tickets are kept, with room for a
-- whole window of them.
pub record IsSession {B : Type 0} (window : ℕ) (me : Sat B) (waits : List ℕ) (capacity : ℕ) : Type 0 where
  pub claims : me.0 ≡ Claims (claimer_of me.0)
  pub nothing_out : me.1 ≡ []
  pub idle : (claimer_of me.0).pending ≡ None
  pub waits_is : waits ≡ open_of (claimer_of me.0).seen (claimer_of me.0).own
  pub room : window ≤ capacity

-- Between calls the flusher's seat has no place out, and the numbers that it keeps are these.
pub record IsFlush {B : Type 0} (me : Sat B) (base next mark : ℕ) : Type 0 where
  pub owns : me.0 ≡ Owns (owner_of me.0)
  pub nothing_out : me.1 ≡ []
  pub not_held : (owner_of me.0).held ≡ false
  pub alone : (owner_of me.0).joined ≡ []
  pub base_is : base ≡ (owner_of me.0).base
  pub next_is : next ≡ next_of (owner_of me.0)
  pub mark_is : mark ≡ (owner_of me.0).published
  pub next_low : next ≤ 4 * far
  pub ordered : (base ≤ mark) × (mark ≤ next)

-- a ring is laid out for its limits
pub record IsRing (seats window places : ℕ) (id : TableId) (key : Limits) : Type 0 where
  pub words : id.words ≡ places + 3
  pub slots : id.slots ≡ places
  pub some_place : 0 < places
  pub small : places ≤ 4096
  pub seats_is : key.seats ≡ seats
  pub window_is : key.window ≡ window
