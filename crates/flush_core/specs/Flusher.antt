-- What contracts see of a flusher, and what it keeps.
use Rattle.std.specs.Prelude.{◌≡◌, ◌≤◌, ◌<◌, ◌+◌, ◌^◌, ℕ, List, [], Bool, Option, None, true, false, length}
use Rattle.std.specs.List.{AllByRecursion}
use Rattle.disk_core.specs.declared.disk.Disk.{Ghosts}
use Rattle.command_core.specs.Commands.{CommandValue}
use Rattle.command_core.specs.Entries.{EntryValue}
use Rattle.command_core.specs.Outs.{OutValue}
use Rattle.outbox_core.specs.Boxes.{SenderValue}
use Rattle.outbox_core.specs.Giving.{Kept}
use Rattle.area_core.specs.Areas.{commands, records}
use Rattle.broker_core.specs.Sound.{IsSound}
use Rattle.broker_core.specs.States.{State, BrokerValue}
use Rattle.claim_core.specs.Seats.{FlushSeatValue, next_ticket}
use Rattle.recover_core.specs.declared.store.Store.{Store}
use Rattle.recover_core.specs.Standing.{Stands, StandFor}
use Rattle.recover_core.specs.Stores.{disk_of, size_of, used_of}
use Rattle.flush_core.specs.Batches.{between, from_on, state_at}

-- What was written last. The last compaction won so many bytes of the area, if that was not asked for since. Its snapshot has no command
-- from `since` on, or the journal none that was taken, if no compaction was made. From `counted` on the commands count as work that a start
-- would repeat: from `since` on, or, if no snapshot fit when one was due, from the first one stored after that. The last block begins with
-- the command `block`; without a block that is the first command taken.
pub record Latest : Type 0 where
  pub won : Option ℕ
  pub since : ℕ
  pub counted : ℕ
  pub block : ℕ

-- A flusher. It has its disk, the bytes of an area of the journal and those used; and its seat at the ring, with the commands taken and the
-- mark. Then the state that the journal stood for when the flusher was made; the first number that is not stored, and the first that the
-- broker has not executed. Then the entries that are taken and not executed; the broker; and the outboxes of sessions. Then the sessions
-- that ended and whose last outputs wait for the mark, and those whose last outputs are given. Then the outputs that wait for the mark, and
-- those under it that went to no box; and whether a step failed; and what was written last.
pub record Flushed (D : Type 0) : Type 0 where
  pub disk : D
  pub size : ℕ
  pub used : ℕ
  pub seat : FlushSeatValue
  pub opening : State
  pub stored : ℕ
  pub executed : ℕ
  pub brought : List (EntryValue SenderValue)
  pub broker : BrokerValue
  pub boxes : Kept
  pub ended : List ℕ
  pub past : List ℕ
  pub waiting : List OutValue
  pub left : List OutValue
  pub broken : Bool
  pub last : Latest

-- a flusher that is new, made of these
abbrev pub new_flusher : {D : Type 0} {disk : Ghosts D} → Store D disk → FlushSeatValue → BrokerValue → Flushed D
new_flusher store seat broker = record {
  disk = disk_of store;
  size = size_of store;
  used = used_of store;
  seat = seat;
  opening = broker.state;
  stored = seat.base;
  executed = seat.base;
  brought = [];
  broker = broker;
  boxes = [];
  ended = [];
  past = [];
  waiting = [];
  left = [];
  broken = false;
  last = record { won = None; since = seat.base; counted = seat.base; block = seat.base };
}

-- the state after all that is stored
abbrev pub state_stored : {D : Type 0} → Flushed D → State
state_stored f = state_at f.opening f.seat f.stored

-- the commands that wait to be stored
abbrev pub gathered : {D : Type 0} → Flushed D → List CommandValue
gathered f = from_on f.seat f.stored

-- the commands that are stored and not executed
abbrev pub unexecuted : {D : Type 0} → Flushed D → List CommandValue
unexecuted f = between f.seat f.executed f.stored

-- no step has failed, and all that is stored is executed
abbrev pub HasExecuted : {D : Type 0} → Flushed D → Type 0
HasExecuted f = (f.broken ≡ false) × (f.executed ≡ f.stored)

-- a step has failed, and the ring is stopped
abbrev pub HasStopped : {D : Type 0} → Flushed D → Type 0
HasStopped f = (f.broken ≡ true) × (f.seat.stopped ≡ true)

-- the outputs are of commands whose numbers are under n
abbrev pub AreUnder : ℕ → List OutValue → Type 0
AreUnder n outs = AllByRecursion (λ out. out.number < n) outs

-- the image stands for the state after some of the commands taken: all those under the mark, and perhaps more
pub record AfterSome (opening : State) (seat : FlushSeatValue) (image : List ℕ) : Type 0 where
  pub number : ℕ
  pub marked : seat.published ≤ number
  pub taken : number ≤ next_ticket seat
  pub stands : Stands image (state_at opening seat number)

-- each image stands for such a state
abbrev pub HoldBetween : (List ℕ → Type 0) → State → FlushSeatValue → Type 0
HoldBetween images opening seat = (c : List ℕ) → images c → ∥ AfterSome opening seat c ∥₁

-- While no step has failed: each image stands for the state after all that is stored, and the broker has the state after all that is
-- executed. The entries brought are those of the commands from the executed number on. Every output that waits is of a command that is
-- executed.
pub record IsRunning {D : Type 0} (honest : D → Type 0) (images : D → List ℕ → Type 0) (f : Flushed D) : Type 0 where
  pub stands : honest f.disk → StandFor (images f.disk) (state_at f.opening f.seat f.stored)
  pub broker : f.broker ≡ record { state = state_at f.opening f.seat f.executed; broken = false }
  pub brought : commands f.brought ≡ from_on f.seat f.executed
  pub waiting : AreUnder f.executed f.waiting

-- What a flusher keeps, after a fault too. The mark is at most what is stored, and that is at most what was taken. Each image stands for
-- the state after the commands taken up to some number from the mark on. No output is handed out over the mark.
pub record IsFlusher {D : Type 0} (honest : D → Type 0) (images : D → List ℕ → Type 0) (f : Flushed D) : Type 0 where
  pub begun : f.seat.base ≤ f.seat.published
  pub marked : f.seat.published ≤ f.executed
  pub executed : f.executed ≤ f.stored
  pub stored : f.stored ≤ next_ticket f.seat
  pub opened : f.opening.count ≡ f.seat.base
  pub sound : IsSound f.opening
  pub each : honest f.disk → HoldBetween (images f.disk) f.opening f.seat
  pub under : AreUnder f.seat.published f.left
  pub stopped : f.broken ≡ true → f.seat.stopped ≡ true
  pub running : f.broken ≡ false → IsRunning honest images f

-- two flushers are the same but for their disks
pub record IsSame {C D : Type 0} (one : Flushed C) (other : Flushed D) : Type 0 where
  pub size : other.size ≡ one.size
  pub used : other.used ≡ one.used
  pub seat : other.seat ≡ one.seat
  pub opening : other.opening ≡ one.opening
  pub stored : other.stored ≡ one.stored
  pub executed : other.executed ≡ one.executed
  pub brought : other.brought ≡ one.brought
  pub broker : other.broker ≡ one.broker
  pub boxes : other.boxes ≡ one.boxes
  pub ended : other.ended ≡ one.ended
  pub past : other.past ≡ one.past
  pub waiting : other.waiting ≡ one.waiting
  pub left : other.left ≡ one.left
  pub broken : other.broken ≡ one.broken
  pub last : other.last ≡ one.last

-- How the fields show it while no step has failed. The journal is whole, and there is room for the outputs that wait. Entries stand for the
-- commands that wait to be stored, and for those that wait to be executed.
pub record IsHeld {B : Type 0} (seat : FlushSeatValue) (stored executed : ℕ) (journal : Bool) (batch done : List (EntryValue B)) (bytes left waiting room : ℕ) : Type 0 where
  pub whole : journal ≡ false
  pub batch_is : commands batch ≡ from_on seat stored
  pub bytes_is : bytes ≡ length (records (commands batch))
  pub done_is : commands done ≡ between seat executed stored
  pub few : stored ≤ 2 ^ 62
  pub room_is : 0 < left → left + waiting ≤ room

-- And there is room for the outputs that go to no box.
pub record IsSpare (spare waiting room : ℕ) : Type 0 where
  pub none : spare ≡ 0
  pub room_is : waiting ≤ room
