-- What contracts see of a server and of its workers.
use Rattle.std.specs.Prelude.{◌≡◌, ◌+◌, ◌≤◌, ℕ, List, [], ◌∷◌, ◌++◌, Option, Some, None, Vec, codes, false, length, true}
use Rattle.std.specs.declared.alloc.Global.{Global}
use Rattle.std.specs.List.{All, AllByRecursion}
use Rattle.std.specs.Fmt.{decimal}
use Rattle.std.specs.declared.thread.PromisedHandle.{PromisedHandle}
use Rattle.atomic_table.specs.Seated.{TableId}
use Rattle.claim_core.specs.Seats.{SessionSeatValue, when_stopped}
use Rattle.claim_core.specs.declared.limits.TheConstants.{SEATS}
use Rattle.disk_core.specs.declared.file.FileDisk.{FileDisk}
use Rattle.disk_core.specs.declared.loss.DeviceCause.{DeviceCause}
use Rattle.flush_core.specs.Flusher.{Flushed}
use Rattle.engine_core.specs.Hubs.{HubValue, IsWhole}
use Rattle.command_core.specs.Commands.{CommandValue}
use Rattle.engine_core.specs.Closings.{Closes}
use Rattle.engine_core.specs.declared.hub.Closed.{Closed}
use Rattle.engine_core.specs.declared.hub.SeatRoom.{SeatRoom}
use Rattle.recover_core.specs.declared.faults.OpenFault.{OpenFault}
use Rattle.event_log.specs.declared.fault.ServeFault.{ServeFault}
use Rattle.event_log.specs.declared.fault.ServeFault.TheVariants.{Output, Flushing, Opening, Device}
use Rattle.wakeups.specs.declared.mailbox.ClientWaker.{ClientWaker}
use Rattle.server_core.specs.declared.service.Service.{Service}
use Rattle.server_core.specs.declared.serving.ServeEnd.{ServeEnd}
use Rattle.server_core.specs.declared.serving.ServeEnd.TheVariants.{Asked, Fault}
use Rattle.server_core.specs.declared.worker.WorkerSetup.{WorkerSetup}
use Rattle.server_core.specs.declared.worker.SeatsBack.{SeatsBack}

-- The port; the ring at which all meet; the seats that no worker has yet; and the flusher.
pub record ServerValue : Type 0 where
  pub port : ℕ
  pub ring : TableId
  pub seats : List SessionSeatValue
  pub flusher : Flushed FileDisk

abbrev pub server : ℕ → TableId → List SessionSeatValue → Flushed FileDisk → ServerValue
server port ring seats flusher = record { port = port; ring = ring; seats = seats; flusher = flusher }

-- a worker's ring, and its seats
pub record WorkerValue : Type 0 where
  pub ring : TableId
  pub seats : List SessionSeatValue

-- the seats are at this ring
abbrev pub AreAt : TableId → List SessionSeatValue → Type 0
AreAt ring seats = AllByRecursion (λ (seat : SessionSeatValue). seat.ring ≡ ring) seats

-- so are the seats of each of these lists
abbrev pub AreAllAt : TableId → List (Vec SessionSeatValue Global) → Type 0
AreAllAt ring lists = All (λ (seats : Vec SessionSeatValue Global). AreAt ring seats.items) lists

-- the desks at which these services are have seats at this ring
abbrev pub AreServed : {R : Type 0} → TableId → List (Service R) → Type 0
AreServed {R = R} ring services = All (λ (service : Service R). service.shared.now.ring ≡ ring) services

-- how many desks these workers have
abbrev pub count_mailboxes : List WorkerSetup → ℕ
count_mailboxes [] = 0
count_mailboxes (setup ∷ setups) = length setup.mailboxes.items + count_mailboxes setups

-- the ring at which a worker's desks have their seats, and how many seats it has
pub record LoopValue : Type 0 where
  pub ring : TableId
  pub count : ℕ

-- so many seats have come back, at this ring
abbrev pub AreBack : TableId → ℕ → List SessionSeatValue → Type 0
AreBack ring count seats = AreAt ring seats × (length seats ≡ count)

-- the flusher is at this ring, and has carried out all that it has stored, unless a step has failed
pub record IsReady {D : Type 0} (ring : TableId) (flusher : Flushed D) : Type 0 where
  pub ring_is : flusher.seat.ring ≡ ring
  pub executed : flusher.broken ≡ false → flusher.executed ≡ flusher.stored

-- the flusher was found with a disk that failed: it is broken, and the ring is stopped
abbrev pub failed : Flushed FileDisk → Flushed FileDisk
failed f = record f { broken = true; seat = when_stopped f.seat }

-- the flusher has ended: it is at that ring still, which has as many seats and is stopped
pub record HasEnded (ring : TableId) (old new : Flushed FileDisk) : Type 0 where
  pub ready : IsReady ring new
  pub seats : new.seat.seats ≡ old.seat.seats
  pub stops : new.seat.stopped ≡ true

-- all seats and the flusher are at the server's ring
abbrev pub IsServer : ServerValue → Type 0
IsServer s = IsReady s.ring s.flusher × AreAt s.ring s.seats

-- why a journal was not opened, whose disk has failed for that cause or not at all
abbrev pub unopened : Option DeviceCause → OpenFault → ServeFault
unopened (Some cause) fault = Device cause
unopened None fault = Opening fault

-- nothing was handed out of the hub
abbrev pub IsNewHub : HubValue FileDisk → Type 0
IsNewHub h = (f : Flushed FileDisk) × IsWhole h f

-- a server at that port before its first worker: the seats of all workers wait, and the flusher has taken nothing
pub record IsOpened (port : ℕ) (s : ServerValue) : Type 0 where
  pub port_is : s.port ≡ port
  pub seats : length s.seats ≡ SEATS
  pub fresh : s.flusher.seat.taken ≡ []

-- what a server writes once it listens
abbrev pub announced : ℕ → List ℕ
announced port = codes "listening " ++ (decimal port ++ 10 ∷ [])

-- each of these threads hands back seats at this ring
abbrev pub ArePromised : TableId → List (PromisedHandle (Vec SessionSeatValue Global) SeatsBack) → Type 0
ArePromised ring threads = All (λ (thread : PromisedHandle (Vec SessionSeatValue Global) SeatsBack). thread.promise.ring.value ≡ ring) threads

-- the seats that no worker has are at this ring, one for each desk of a worker that is not started, and started workers hand theirs
-- back to it
pub record IsStaffed (ring : TableId) (seats : List SessionSeatValue) (setups : List WorkerSetup) (workers : List (PromisedHandle (Vec SessionSeatValue Global) SeatsBack)) : Type 0 where
  pub at : AreAt ring seats
  pub desks : count_mailboxes setups ≡ length seats
  pub promised : ArePromised ring workers

-- What a server keeps: for each seat that it has, a desk of a worker that is not started.
pub record KeepsServer (s : ServerValue) (setups : List WorkerSetup) (room : SeatRoom ClientWaker) (workers : List (PromisedHandle (Vec SessionSeatValue Global) SeatsBack)) : Type 0 where
  pub server_is : IsServer s
  pub desks : count_mailboxes setups ≡ length s.seats
  pub empty : room.seats.items ≡ []
  pub promised : ArePromised s.ring workers
  pub count : s.flusher.seat.seats ≡ SEATS

-- nothing of a server has changed but its flusher, whose ring is stopped
pub record IsStopped (old new : ServerValue) : Type 0 where
  pub stopped : new.flusher.seat.stopped ≡ true
  pub same : new ≡ record old { flusher = new.flusher }

-- the same, since a step of the flusher has failed
pub record IsFailed (old new : ServerValue) : Type 0 where
  pub broken : new.flusher.broken ≡ true
  pub stopped : IsStopped old new

-- A server serves no more. It was asked to end, and then its ring is stopped; or its announcement can't be written, and then nothing
-- has changed; or a step of its flusher has failed, or its disk.
abbrev pub IsEnd : ServerValue → ServerValue → ServeEnd → Type 0
IsEnd old new Asked = IsStopped old new
IsEnd old new (Fault Output) = new ≡ old
IsEnd old new (Fault (Flushing fault)) = IsFailed old new
IsEnd old new (Fault (Device cause)) = IsFailed old new
IsEnd old new (Fault _) = ⊥

-- The hub has ended with this flusher: all that hubs promise of an end holds, over a disk with these images.
pub record IsClosed (honest : FileDisk → Type 0) (images : FileDisk → List ℕ → Type 0) (f : Flushed FileDisk) (closed : Closed FileDisk) : Type 0 where
  pub seats : List SessionSeatValue
  pub history : List CommandValue
  pub closes : Closes honest images seats f history closed
