-- What a hub shows at its end, and what is promised of that.
use Rattle.std.specs.Prelude.{◌≡◌, ◌-◌, ◌≤◌, ℕ, List, [], ◌∷◌, Bool, true, false, length, map, max, replicate}
use Rattle.command_core.specs.Commands.{CommandValue}
use Rattle.claim_core.specs.declared.ring.RingEnd.{RingEnd}
use Rattle.claim_core.specs.Counts.{Pair}
use Rattle.claim_core.specs.Endings.{Ends}
use Rattle.claim_core.specs.Seats.{SessionSeatValue, next_ticket}
use Rattle.flush_core.specs.Flusher.{Flushed}
use Rattle.world_core.specs.declared.parts.Period.TheVariants.{Running}
use Rattle.world_core.specs.declared.parts.LastCall.{LastCall}
use Rattle.world_core.specs.declared.parts.LastCall.TheVariants.{Rest, Broken}
use Rattle.world_core.specs.declared.seat.Seat.{Seat}
use Rattle.world_core.specs.Promises.{HoldsOn, numbers}
use Rattle.world_core.specs.Schedules.{life_of}
use Rattle.world_core.specs.Worlds.{DiskValue, WorldValue, claimed}
use Rattle.engine_core.specs.declared.hub.Closed.{Closed}

-- a session's seat: its own numbers, and the mark that it read last
abbrev pub seat_shown : SessionSeatValue → Seat
seat_shown seat = record { own = map (λ (p : Pair). p.0) seat.own; seen = seat.seen }

-- the greatest mark that any of the seats has read, and no less than that number
abbrev pub most_seen : ℕ → List SessionSeatValue → ℕ
most_seen least [] = least
most_seen least (seat ∷ seats) = max seat.seen (most_seen least seats)

-- no list of device calls is in progress; after a step of the flusher that failed, only opening may begin one
abbrev pub place_of : Bool → LastCall
place_of false = Rest
place_of true = Broken

-- The world that a ring's history, its sessions' seats and a flusher show over a disk, field by field. All commands are
-- ready. All numbers under the greatest mark that a seat has read are released, and all numbers of the lives before.
abbrev pub shown : {D : Type 0} → List CommandValue → List SessionSeatValue → Flushed D → DiskValue → WorldValue
shown history seats f disk = record {
  base = f.seat.base;
  opening = f.opening;
  history = history;
  ready = replicate (length history) true;
  taken = next_ticket f.seat;
  stored = f.stored;
  mark = f.seat.published;
  seats = map seat_shown seats;
  stopped = f.seat.stopped;
  released = numbers f.seat.base (most_seen f.seat.base seats - f.seat.base);
  earlier = numbers 0 f.seat.base;
  phase = Running;
  place = place_of f.broken;
  disk = disk;
}

-- what is reported is that world's first number, its next one, what is taken, and the mark
pub record Tells {D : Type 0} (closed : Closed D) (w : WorldValue) : Type 0 where
  pub base : closed.base ≡ w.base
  pub claimed_is : closed.claimed ≡ claimed w
  pub taken : closed.taken ≡ w.taken
  pub mark : closed.mark ≡ w.mark

-- the same numbers, as a ring's end has them
abbrev pub end_of : {D : Type 0} → Closed D → RingEnd
end_of closed = record { base = closed.base; claimed = closed.claimed; taken = closed.taken; mark = closed.mark }

-- what is reported of an end with those numbers, and that disk
abbrev pub closed : {D : Type 0} → RingEnd → D → Closed D
closed end disk = record { base = end.base; claimed = end.claimed; taken = end.taken; mark = end.mark; disk = disk }

-- A hub has ended, with these seats and this flusher, and there was this one history. Each caller's commands stand in it
-- at the caller's own tickets, each once, in the order of its calls. What the flusher took begins it, and what it stored
-- begins that. The disk is the flusher's. What is promised of a world holds for the one shown, by the images of that
-- disk: each has a prefix of the history, with all that is released.
pub record Closes {D : Type 0} (honest : D → Type 0) (images : D → List ℕ → Type 0) (seats : List SessionSeatValue) (f : Flushed D) (history : List CommandValue) (closed : Closed D) : Type 0 where
  pub ended : Ends seats f.seat history (end_of closed)
  pub stored : (closed.mark ≤ f.stored) × (f.stored ≤ closed.taken)
  pub disk_is : closed.disk ≡ f.disk
  pub tells : (disk : DiskValue) → Tells closed (shown history seats f disk)
  pub holds : honest closed.disk → (disk : DiskValue) → HoldsOn (life_of (shown history seats f disk)) (images closed.disk)
