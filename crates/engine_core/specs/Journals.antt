-- What a script's journal keeps.
use Rattle.std.specs.Prelude.{◌≡◌, ◌≤◌, ◌++◌, ◌∷◌, ℕ, Bool, List, [], Result, false, length, take, true, IfErr, IsErrOf, OnErr}
use Rattle.atomic_table.specs.Seated.{TableId}
use Rattle.disk_core.specs.declared.disk.Disk.{Ghosts}
use Rattle.disk_core.specs.Faults.{IsOneMore}
use Rattle.command_core.specs.Commands.{CommandValue}
use Rattle.command_core.specs.Outs.{OutValue}
use Rattle.broker_core.specs.States.{State}
use Rattle.broker_core.specs.Steps.{outs_of, state_after}
use Rattle.claim_core.specs.Seats.{SessionSeatValue}
use Rattle.flush_core.specs.declared.faults.FlushFault.{FlushFault}
use Rattle.flush_core.specs.declared.faults.FlushFault.TheVariants.{Full}
use Rattle.flush_core.specs.Flusher.{Flushed}
use Rattle.flush_core.specs.Room.{HasNoRoomLeft}
use Rattle.recover_core.specs.Standing.{Stands}
use Rattle.engine_core.specs.declared.command_queue.Waiting.{Waiting}
use Rattle.engine_core.specs.Faults.{IsCausedBy}
use Rattle.engine_core.specs.Going.{HasGone, HasGoneFront, IsIdle}
use Rattle.engine_core.specs.Placed.{AreOwn, AreSeatsOf, commands_of}

-- A journal: the broker's state after its commands, whether they are durable, its disk, and the seats at its ring, one for
-- each connection.
pub record JournalValue (D : Type 0) : Type 0 where
  pub state : State
  pub durable : Bool
  pub disk : D
  pub seats : List SessionSeatValue

-- a durable journal of this state over this disk
pub record IsMade {D : Type 0} (state : State) (disk : D) (journal : JournalValue D) : Type 0 where
  pub state_is : journal.state ≡ state
  pub durable_is : journal.durable ≡ true
  pub disk_is : journal.disk ≡ disk

-- the seats and the flusher are at this ring, and the flusher is idle and has handed all outputs out
pub record IsAtRest {D : Type 0} (ring : TableId) (seats : List SessionSeatValue) (flusher : Flushed D) : Type 0 where
  pub seats_are : AreSeatsOf ring seats
  pub flush_is : flusher.seat.ring ≡ ring
  pub idle : IsIdle flusher
  pub none_left : flusher.left ≡ []

-- the image stands for the state after the first n of these commands
pub record StandsAfterFront (s : State) (commands : List CommandValue) (image : List ℕ) : Type 0 where
  pub n : ℕ
  pub few : n ≤ length commands
  pub stands : Stands image (state_after s (take n commands))

-- each of these images stands for the state after the first so many of these commands
abbrev pub KeepFront : (List ℕ → Type 0) → State → List CommandValue → Type 0
KeepFront images s commands = (c : List ℕ) → images c → ∥ StandsAfterFront s commands c ∥₁

-- The journal is compacted, as far as that goes: the image stands for the state after the first of these commands. It has no room for a
-- block of the next one alone, or for a snapshot of that state.
pub record IsFull (s : State) (commands : List CommandValue) (image : List ℕ) : Type 0 where
  pub done : List CommandValue
  pub next : CommandValue
  pub behind : List CommandValue
  pub split : commands ≡ done ++ next ∷ behind
  pub no_room : HasNoRoomLeft image (state_after s done) (next ∷ [])

-- So many of these commands, from the first on, were taken, and the disk holds so many: all, if all went. Each belongs to its connection's
-- seat.
pub record GoesThrough {D : Type 0} (disk : Ghosts D) (old new : Flushed D) (seats : List SessionSeatValue) (waiting : List Waiting) (all : Bool) : Type 0 where
  pub own : AreOwn seats waiting
  pub gone : all ≡ true → HasGone old new (commands_of waiting)
  pub front : HasGoneFront old new (commands_of waiting)
  pub kept : disk.honest new.disk → KeepFront (disk.images new.disk) old.broker.state (commands_of waiting)

-- The commands are carried out, with these outputs, and nothing but the disk and the seats changes besides. The disk did not fail.
pub record Records {D : Type 0} (disk : Ghosts D) (old new : JournalValue D) (commands : List CommandValue) (outs : List OutValue) : Type 0 where
  pub state : new ≡ record old { state = state_after old.state commands; disk = new.disk; seats = new.seats }
  pub outs_are : outs ≡ outs_of old.state commands
  pub calm : disk.failures new.disk ≡ disk.failures old.disk

-- a call of the disk failed, and the journal is not durable
pub record DiskFails {D : Type 0} (disk : Ghosts D) (old new : JournalValue D) : Type 0 where
  pub failed : IsOneMore (disk.failures old.disk) (disk.failures new.disk)
  pub not_durable : new.durable ≡ false

-- The journal was durable. Each image stands for the state after the first so many of the commands. Each of these belongs to its
-- connection's seat.
pub record KeepsRecorded {D : Type 0} (disk : Ghosts D) (old new : JournalValue D) (waiting : List Waiting) : Type 0 where
  pub durable : old.durable ≡ true
  pub kept : disk.honest new.disk → KeepFront (disk.images new.disk) old.state (commands_of waiting)
  pub own : AreOwn new.seats waiting

-- A journal that refuses is not durable. The disk failed exactly if that is the fault. If `Full` is, some commands have no room in it.
pub record RefusesToRecord {D T : Type 0} (disk : Ghosts D) (old new : JournalValue D) (commands : List CommandValue) (result : Result T FlushFault) : Type 0 where
  pub failed : OnErr result (new.durable ≡ false)
  pub cause : IfErr result (IsCausedBy (disk.failures old.disk) (disk.failures new.disk))
  pub full : disk.honest old.disk → IsErrOf result Full → IsFull old.state commands (disk.content new.disk)
