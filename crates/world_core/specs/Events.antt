-- Events: when they are possible, and what they change.
use Rattle.std.specs.Prelude.{◌≡◌, ℕ, ◌+◌, ◌-◌, ◌<◌, ◌≤◌, Bool, true, false, List, [], ◌∷◌, ◌++◌, length, map, slice_get, slice_set, unwrap_or, option_map, count_by, Option, Some, None, IsSomeAnd, nat_le}
use Rattle.claim_core.specs.declared.limits.TheConstants.{WINDOW}
use Rattle.disk_core.specs.Images.{IsImage}
use Rattle.disk_core.specs.Memory.{none_held}
use Rattle.area_core.specs.Areas.{HasRecord}
use Rattle.broker_core.specs.States.{State}
use Rattle.world_core.specs.declared.event.Event.{Event}
use Rattle.world_core.specs.declared.event.Event.TheVariants.{Look, Claim, Ready, Take, Device, Raise, Release, Stop, Crash, Open}
use Rattle.world_core.specs.declared.parts.Period.{Period}
use Rattle.world_core.specs.declared.parts.Period.TheVariants.{Running, Reopening, Crashed}
use Rattle.world_core.specs.declared.parts.LastCall.TheVariants.{Rest, Broken, Opened}
use Rattle.world_core.specs.declared.seat.Seat.{Seat}
use Rattle.world_core.specs.Calls.{MayLead, called, leads}
use Rattle.world_core.specs.Limits.{far}
use Rattle.world_core.specs.Readings.{Reading}
use Rattle.world_core.specs.Worlds.{DiskValue, WorldValue, claimed}

-- the sessions are there, to look and to release
abbrev pub AreThere : Period → Type 0
AreThere Running = Unit {0}
AreThere Reopening = Unit {0}
AreThere Crashed = ⊥

-- how many of a seat's own commands are not under the mark that it saw
abbrev pub open_of : Seat → ℕ
open_of seat = count_by (nat_le seat.seen) seat.own

-- its last command
abbrev pub last_of : List ℕ → Option ℕ
last_of own = slice_get own (length own - 1)

-- the last command is ready, if there is one
abbrev pub IsReady : WorldValue → Option ℕ → Type 0
IsReady w None = Unit {0}
IsReady w (Some number) = slice_get w.ready (number - w.base) ≡ Some true

-- there is one, and it is not ready
abbrev pub IsPending : WorldValue → Option ℕ → Type 0
IsPending w None = ⊥
IsPending w (Some number) = slice_get w.ready (number - w.base) ≡ Some false

-- the seat may claim one more command
pub record MayClaim (w : WorldValue) (seat : Seat) : Type 0 where
  pub near : seat.seen < far
  pub room : open_of seat < WINDOW
  pub last : IsReady w (last_of seat.own)

-- sessions run, and there is a seat of that number that may claim
abbrev pub CanClaim : WorldValue → ℕ → Type 0
CanClaim w j = (w.phase ≡ Running) × IsSomeAnd (slice_get w.seats j) (MayClaim w)

-- When an event is possible in a world, if this is read of its disk.
abbrev pub Possible : WorldValue → Reading → Event → Type 0
Possible w r (Look j) = AreThere w.phase × (j < length w.seats)
Possible w r (Claim j command) = CanClaim w j × HasRecord command
Possible w r (Ready j) = (w.phase ≡ Running) × IsSomeAnd (slice_get w.seats j) (λ seat. IsPending w (last_of seat.own))
Possible w r Take = (w.phase ≡ Running) × (slice_get w.ready (w.taken - w.base) ≡ Some true)
Possible w r (Device call) = IsSomeAnd (leads w r call.list call.kind) (MayLead w r)
Possible w r (Raise n) = (w.phase ≡ Running) × (w.mark ≤ n) × (n ≤ w.stored)
Possible w r (Release j n) = AreThere w.phase × IsSomeAnd (slice_get w.seats j) (λ seat. n < seat.seen)
Possible w r Stop = w.phase ≡ Running
Possible w r (Crash image) = IsImage w.disk.content w.disk.held image
Possible w r Open = w.place ≡ Opened

-- a seat that is there, changed
abbrev pub with_seat : (Seat → Seat) → ℕ → Option Seat → List Seat → List Seat
with_seat change j None seats = seats
with_seat change j (Some seat) seats = slice_set seats j (change seat)

abbrev pub looks : ℕ → Seat → Seat
looks mark seat = record { own = seat.own; seen = mark }

abbrev pub claims : ℕ → Seat → Seat
claims number seat = record { own = seat.own ++ number ∷ []; seen = seat.seen }

-- a seat has the next number, which is not ready
abbrev pub with_number : WorldValue → ℕ → WorldValue
with_number w j = record w { ready = w.ready ++ false ∷ []; seats = with_seat (claims (claimed w)) j (slice_get w.seats j) w.seats }

-- the last command of a seat is ready
abbrev pub readied : WorldValue → Option Seat → List Bool
readied w None = w.ready
readied w (Some seat) = unwrap_or (option_map (λ number. slice_set w.ready (number - w.base) true) (last_of seat.own)) w.ready

-- the disk is stopped and started again with these bytes
abbrev pub with_image : List ℕ → DiskValue → DiskValue
with_image image d = record d { content = image; held = none_held (length image) }

-- A new life begins with a state: nothing is claimed, and numbers go on from its count.
abbrev pub reopened : WorldValue → State → WorldValue
reopened w s = record {
  base = s.count;
  opening = s;
  history = [];
  ready = [];
  taken = s.count;
  stored = s.count;
  mark = s.count;
  seats = map (λ (seat : Seat). record { own = []; seen = s.count }) w.seats;
  stopped = false;
  released = [];
  earlier = w.earlier ++ w.released;
  phase = Running;
  place = Rest;
  disk = w.disk;
}

-- The world after an event that is possible, if this was read of its disk.
abbrev pub after : WorldValue → Reading → Event → WorldValue
after w r (Look j) = record w { seats = with_seat (looks w.mark) j (slice_get w.seats j) w.seats }
after w r (Claim j command) = record (with_number w j) { history = w.history ++ command ∷ [] }
after w r (Ready j) = record w { ready = readied w (slice_get w.seats j) }
after w r Take = record w { taken = w.taken + 1 }
after w r (Device call) = called w r call w.place (leads w r call.list call.kind)
after w r (Raise n) = record w { mark = n }
after w r (Release j n) = record w { released = w.released ++ n ∷ [] }
after w r Stop = record w { stopped = true }
after w r (Crash image) = record w { phase = Crashed; place = Broken; disk = with_image image w.disk }
after w r Open = reopened w r.state
