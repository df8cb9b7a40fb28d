-- What each event keeps.
use Rattle.std.specs.Prelude.{◌≡◌, ◌≢◌, ℕ, ◌+◌, ◌*◌, ◌<◌, ◌≤◌, List, [], length, take, drop, All}
use Rattle.std.specs.List.{AllByRecursion}
use Rattle.command_core.specs.Commands.{CommandValue}
use Rattle.disk_core.specs.Images.{IsImage, Torn, patched}
use Rattle.disk_core.specs.Memory.{none_held}
use Rattle.area_core.specs.declared.version.Version.TheVariants.{Two}
use Rattle.area_core.specs.Areas.{HasRecord, IsArea, IsBlock, closed, records}
use Rattle.area_core.specs.Journals.{is_odd, start}
use Rattle.broker_core.specs.Operations.{restarted}
use Rattle.broker_core.specs.States.{State}
use Rattle.snapshot_core.specs.Snapshots.{snapshot_of}
use Rattle.world_core.specs.declared.parts.Period.{Period}
use Rattle.world_core.specs.declared.parts.Period.TheVariants.{Running}
use Rattle.world_core.specs.declared.parts.LastCall.{LastCall}
use Rattle.world_core.specs.declared.parts.LastCall.TheVariants.{Rest, Broken, BlockWritten, BlockSynced, GateWritten, Copying, CopySynced, SwitchWritten, OpenSynced, OpenRead, SnapshotWriting, SnapshotSynced, SelectorWritten, Opened}
use Rattle.world_core.specs.declared.seat.Seat.{Seat}
use Rattle.world_core.specs.Calls.{CanCopy, CanRestart, copy_of, idle_of, rest_of}
use Rattle.world_core.specs.Limits.{most_counted}
use Rattle.world_core.specs.Readings.{IsRead, Reading}
use Rattle.world_core.specs.Worlds.{DiskValue, WorldValue, between, claimed, state_under}

-- the history of a life, as far as the disk is concerned
pub record Log : Type 0 where
  pub base : ℕ
  pub opening : State
  pub history : List CommandValue
  pub stored : ℕ
  pub taken : ℕ
  pub phase : Period

abbrev pub log_of : WorldValue → Log
log_of w = record { base = w.base; opening = w.opening; history = w.history; stored = w.stored; taken = w.taken; phase = w.phase }

abbrev pub upto : Log → ℕ → State
upto log n = state_under log.base log.opening log.history n

-- An image stands for the state after what is stored, or after more, but not more than is taken. Once the life has ended, it may instead
-- stand for a state with the same restart.
pub record HasPrefix (log : Log) (size : ℕ) (c : List ℕ) : Type 0 where
  pub number : ℕ
  pub stored : log.stored ≤ number
  pub taken : number ≤ log.taken
  pub reading : Reading
  pub is_read : IsRead size c reading
  pub same : restarted reading.state ≡ restarted (upto log number)
  pub running : log.phase ≡ Running → reading.state ≡ upto log number

-- what is read of the disk is the state after just these, in an area of the second version
pub record Exact (log : Log) (d : DiskValue) (n : ℕ) : Type 0 where
  pub running : log.phase ≡ Running
  pub reading : Reading
  pub is_read : IsRead d.size d.content reading
  pub two : reading.version ≡ Two
  pub state : reading.state ≡ upto log n

-- a block of the commands up to a number stands behind the gate of what was there before
pub record Staged (log : Log) (d : DiskValue) (to : ℕ) : Type 0 where
  pub running : log.phase ≡ Running
  pub more : log.stored < to
  pub taken : to ≤ log.taken
  pub before : List ℕ
  pub reading : Reading
  pub was_read : IsRead d.size before reading
  pub two : reading.version ≡ Two
  pub state : reading.state ≡ upto log log.stored
  pub form : IsBlock (between log.base log.history log.stored to)
  pub room : reading.gate + 10 + length (records (between log.base log.history log.stored to)) ≤ d.size
  pub content : d.content ≡ patched (start d.size (is_odd was_read.selector) + reading.gate + 1) (closed (records (between log.base log.history log.stored to))) before

-- Of these bytes, which are `all` in number, the first `done` stand in the idle area. A stop may leave any bytes in that area, and
-- elsewhere only what is read.
pub record Copies (d : DiskValue) (bytes : List ℕ) (done all : ℕ) : Type 0 where
  pub whole : all ≡ length bytes
  pub within : done ≤ all
  pub there : take done (drop (idle_of d) d.content) ≡ take done bytes
  pub torn : (c : List ℕ) → IsImage d.content d.held c → Torn (idle_of d) d.size d.content c

-- a snapshot of what is read, the state after what is stored, stands in the idle area so far
pub record Copied (log : Log) (d : DiskValue) (done all : ℕ) : Type 0 where
  pub running : log.phase ≡ Running
  pub reading : Reading
  pub is_read : IsRead d.size d.content reading
  pub two : reading.version ≡ Two
  pub state : reading.state ≡ upto log log.stored
  pub can : CanCopy d.size reading
  pub copies : Copies d (copy_of reading) done all

-- and all of it stands there
pub record HasCopy (log : Log) (d : DiskValue) : Type 0 where
  pub running : log.phase ≡ Running
  pub reading : Reading
  pub is_read : IsRead d.size d.content reading
  pub two : reading.version ≡ Two
  pub state : reading.state ≡ upto log log.stored
  pub can : CanCopy d.size reading
  pub idle : IsArea Two d.size (snapshot_of reading.state) [] (drop (idle_of d) d.content)

-- a snapshot of what a restart leaves of the state that is read stands in the idle area so far
pub record Preparing (d : DiskValue) (done all : ℕ) : Type 0 where
  pub reading : Reading
  pub is_read : IsRead d.size d.content reading
  pub can : CanRestart d.size reading
  pub copies : Copies d (rest_of reading) done all

-- the idle area has the snapshot of what a restart leaves of the state that is read
pub record Prepared (d : DiskValue) : Type 0 where
  pub reading : Reading
  pub is_read : IsRead d.size d.content reading
  pub can : CanRestart d.size reading
  pub idle : IsArea Two d.size (snapshot_of (restarted reading.state)) [] (drop (idle_of d) d.content)

-- what is read is a state that is restarted, in an area of the second version
pub record Restarted (d : DiskValue) : Type 0 where
  pub reading : Reading
  pub is_read : IsRead d.size d.content reading
  pub two : reading.version ≡ Two
  pub can : CanRestart d.size reading
  pub again : restarted reading.state ≡ reading.state

-- nothing is unsynced
abbrev pub IsStill : DiskValue → Type 0
IsStill d = d.held ≡ none_held (length d.content)

-- what is known of the disk, by the last call that was made
abbrev pub IsAt : Log → DiskValue → LastCall → Type 0
IsAt log d Rest = IsStill d × Exact log d log.stored
IsAt log d Broken = Unit {0}
IsAt log d (BlockWritten to) = Staged log d to
IsAt log d (BlockSynced to) = IsStill d × Staged log d to
IsAt log d (GateWritten to) = (log.stored ≤ to) × (to ≤ log.taken) × Exact log d to
IsAt log d (Copying done all) = Copied log d done all
IsAt log d CopySynced = IsStill d × HasCopy log d
IsAt log d SwitchWritten = Exact log d log.stored
IsAt log d OpenSynced = IsStill d × (log.phase ≢ Running)
IsAt log d OpenRead = IsStill d × (log.phase ≢ Running)
IsAt log d (SnapshotWriting done all) = (log.phase ≢ Running) × Preparing d done all
IsAt log d SnapshotSynced = IsStill d × (log.phase ≢ Running) × Prepared d
IsAt log d SelectorWritten = (log.phase ≢ Running) × Restarted d
IsAt log d Opened = IsStill d × (log.phase ≢ Running) × Restarted d

-- what each event keeps; what is promised follows from it
pub record IsKept (w : WorldValue) : Type 0 where
  pub least : 4096 ≤ w.disk.size
  pub most : w.disk.size ≤ 1048576
  pub size : length w.disk.content ≡ 32 + 2 * w.disk.size
  pub held : length w.disk.held ≡ length w.disk.content
  pub opened : w.opening.count ≡ w.base
  pub low : w.base ≤ most_counted
  pub begun : w.base ≤ w.mark
  pub marked : w.mark ≤ w.stored
  pub stored : w.stored ≤ w.taken
  pub taken : w.taken ≤ claimed w
  pub flags : length w.ready ≡ length w.history
  pub forms : AllByRecursion HasRecord w.history
  pub seen : All (λ (seat : Seat). seat.seen ≤ w.mark) w.seats
  pub released : All (λ n. n < w.mark) w.released
  pub earlier : All (λ n. n < w.base) w.earlier
  pub images : (c : List ℕ) → IsImage w.disk.content w.disk.held c → HasPrefix (log_of w) w.disk.size c
  pub at : IsAt (log_of w) w.disk w.place
