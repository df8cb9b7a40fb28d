-- What contracts see of a hub.
use Rattle.std.specs.Prelude.{◌≡◌, ℕ, List, [], Option, Some, false, length, slice_get, All, IfSome}
use Rattle.atomic_table.specs.Seated.{TableId}
use Rattle.disk_core.specs.declared.disk.Disk.{Ghosts}
use Rattle.disk_core.specs.Calls.{Lasts, Throughout}
use Rattle.broker_core.specs.Operations.{restarted}
use Rattle.broker_core.specs.States.{BrokerValue, State}
use Rattle.claim_core.specs.declared.limits.TheConstants.{SEATS}
use Rattle.claim_core.specs.Seats.{SessionSeatValue, new_session, new_flushing}
use Rattle.area_core.specs.declared.faults.AreaFault.TheVariants as areas
use Rattle.recover_core.specs.declared.faults.OpenFault.{OpenFault}
use Rattle.recover_core.specs.declared.faults.OpenFault.TheVariants.{Area}
use Rattle.recover_core.specs.Opens.{KeepsRestart}
use Rattle.recover_core.specs.Standing.{Stands}
use Rattle.flush_core.specs.Flusher.{Flushed}

-- The ring; its first ticket; the sessions' seats and the flusher, as far as they were not handed out.
pub record HubValue (D : Type 0) : Type 0 where
  pub ring : TableId
  pub base : ℕ
  pub seats : List SessionSeatValue
  pub flusher : Option (Flushed D)

abbrev pub hub : {D : Type 0} → TableId → ℕ → List SessionSeatValue → Option (Flushed D) → HubValue D
hub ring base seats flusher = record { ring = ring; base = base; seats = seats; flusher = flusher }

-- each of these seats is of that ring, and nobody has used it
abbrev pub AreNew : TableId → ℕ → List SessionSeatValue → Type 0
AreNew ring base seats = All (λ (seat : SessionSeatValue). seat ≡ new_session ring base seat.number) seats

-- a flusher that has done nothing yet: its seat is that of a new ring with all sessions' seats, and a start would have nothing to repeat
pub record IsFirst {D : Type 0} (ring : TableId) (base : ℕ) (f : Flushed D) : Type 0 where
  pub seat : f.seat ≡ new_flushing ring base SEATS
  pub stored : f.stored ≡ base
  pub executed : f.executed ≡ base
  pub broker : f.broker ≡ record { state = f.opening; broken = false }
  pub brought : f.brought ≡ []
  pub boxes : f.boxes ≡ []
  pub ended : (f.ended ≡ []) × (f.past ≡ [])
  pub waiting : f.waiting ≡ []
  pub left : f.left ≡ []
  pub since : f.last.since ≡ base
  pub whole : f.broken ≡ false

-- what was not handed out yet is new
abbrev pub IsHub : {D : Type 0} → HubValue D → Type 0
IsHub h = AreNew h.ring h.base h.seats × ((f : Flushed _) → h.flusher ≡ Some f → IsFirst h.ring h.base f)

-- a hub from which nothing was handed out: all seats, each with its place as its number, and that flusher
pub record IsWhole {D : Type 0} (h : HubValue D) (f : Flushed D) : Type 0 where
  pub flusher : h.flusher ≡ Some f
  pub first : IsFirst h.ring h.base f
  pub count : length h.seats ≡ SEATS
  pub numbers : (k : ℕ) (seat : SessionSeatValue) → slice_get h.seats k ≡ Some seat → seat.number ≡ k

-- memory was refused
abbrev pub IsWant : OpenFault → Type 0
IsWant (Area (areas.Memory refused)) = Unit {0}
IsWant _ = ⊥

-- a whole hub over this disk, whose flusher begins with the state of that broker
pub record Begins {D : Type 0} (h : HubValue D) (disk : D) (opened : Option BrokerValue) : Type 0 where
  pub flusher : Flushed D
  pub whole : IsWhole h flusher
  pub disk_is : flusher.disk ≡ disk
  pub opening : IfSome opened (λ broker. flusher.opening ≡ broker.state)

-- The flusher has the disk that was opened, and begins with the restart of the state that its content stood for. At each moment,
-- an image restarted as before.
pub record TakesOver {D : Type 0} (disk : Ghosts D) (old : D) (f : Flushed D) : Type 0 where
  pub any_moment : Throughout disk old f.disk (KeepsRestart (disk.images old))
  pub state : disk.honest old → (s : State) → Stands (disk.content old) s → f.opening ≡ restarted s
  pub cause : disk.failures f.disk ≡ disk.failures old
  pub lasts : Lasts disk old f.disk
