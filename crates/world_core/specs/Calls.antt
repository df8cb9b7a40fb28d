-- Device calls: which may come next, what they write, and where they lead.
use Rattle.std.specs.Prelude.{◌<◌, ◌≤◌, ℕ, suc, nat_le, ◌+◌, ◌-◌, ◌%◌, Bool, true, false, nat_lt, min, if◌then◌else◌, List, [], ◌∷◌, length, take, drop, slice_index, Option, Some, None}
use Rattle.command_core.specs.Commands.{CommandValue}
use Rattle.command_core.specs.Spellings.{record_of}
use Rattle.disk_core.specs.Images.{patched}
use Rattle.disk_core.specs.Memory.{held_over, none_held}
use Rattle.area_core.specs.declared.version.Version.TheVariants.{Two}
use Rattle.area_core.specs.Areas.{closed, closed_snapshot, records}
use Rattle.area_core.specs.Journals.{is_odd, other, start}
use Rattle.broker_core.specs.Operations.{restarted}
use Rattle.snapshot_core.specs.Snapshots.{Spells, snapshot_of}
use Rattle.world_core.specs.declared.event.Call.{Call}
use Rattle.world_core.specs.declared.event.CallKind.{CallKind}
use Rattle.world_core.specs.declared.event.CallKind.TheVariants.{Read, Write, Sync}
use Rattle.world_core.specs.declared.event.CallList.{CallList}
use Rattle.world_core.specs.declared.event.CallList.TheVariants.{Append, Snapshot, Switch, Open}
use Rattle.world_core.specs.declared.parts.Period.{Period}
use Rattle.world_core.specs.declared.parts.Period.TheVariants.{Running, Reopening}
use Rattle.world_core.specs.declared.parts.LastCall.{LastCall}
use Rattle.world_core.specs.declared.parts.LastCall.TheVariants.{Rest, Broken, BlockWritten, BlockSynced, GateWritten, Copying, CopySynced, SwitchWritten, OpenSynced, OpenRead, SnapshotWriting, SnapshotSynced, SelectorWritten, Opened}
use Rattle.world_core.specs.Limits.{most_counted}
use Rattle.world_core.specs.Readings.{Reading}
use Rattle.world_core.specs.Worlds.{DiskValue, WorldValue, between}

-- Where the next call of a list leads if it succeeds, by the place where the world is. `None` if the call may not come.

-- A snapshot is written with its length and a closed gate, in pieces of 65,536 bytes, the last of which may be shorter. This is how far a
-- piece goes that begins after `done` bytes of the whole.
abbrev pub piece_end : ℕ → ℕ → ℕ
piece_end done whole = min (done + 65536) whole

-- a block is written behind the closed gate and synced, and then its gate; the block has the commands under that number
abbrev pub append_writes : ℕ → LastCall → Option LastCall
append_writes under Rest = Some (BlockWritten under)
append_writes under CopySynced = Some (BlockWritten under)
append_writes under (BlockSynced to) = Some (GateWritten to)
append_writes under at = None

abbrev pub append_syncs : LastCall → Option LastCall
append_syncs (BlockWritten to) = Some (BlockSynced to)
append_syncs (GateWritten to) = Some Rest
append_syncs at = None

-- a snapshot of the state as it is may be written if no list is under way
abbrev pub copy_writes : ℕ → LastCall → Option LastCall
copy_writes whole Rest = Some (Copying (piece_end 0 whole) whole)
copy_writes whole CopySynced = Some (Copying (piece_end 0 whole) whole)
copy_writes whole (Copying done all) = if nat_lt done all then Some (Copying (piece_end done all) all) else None
copy_writes whole at = None

-- and is synced once all of it is written
abbrev pub copy_syncs : LastCall → Option LastCall
copy_syncs (Copying done all) = if nat_lt done all then None else Some CopySynced
copy_syncs at = None

-- the areas are switched right after that, and at no other time
abbrev pub switch_writes : LastCall → Option LastCall
switch_writes CopySynced = Some SwitchWritten
switch_writes at = None

abbrev pub switch_syncs : LastCall → Option LastCall
switch_syncs SwitchWritten = Some Rest
switch_syncs at = None

-- The list of Open may begin at rest and when broken, after a snapshot, and between two of its pieces. It may begin anew after its first
-- sync, after a read, and between two pieces.
abbrev pub open_syncs : LastCall → Option LastCall
open_syncs Rest = Some OpenSynced
open_syncs Broken = Some OpenSynced
open_syncs (Copying done all) = if nat_lt done all then Some OpenSynced else None
open_syncs CopySynced = Some OpenSynced
open_syncs OpenSynced = Some OpenSynced
open_syncs OpenRead = Some OpenSynced
open_syncs (SnapshotWriting done all) = if nat_lt done all then Some OpenSynced else Some SnapshotSynced
open_syncs SelectorWritten = Some Opened
open_syncs at = None

abbrev pub open_reads : LastCall → Option LastCall
open_reads OpenSynced = Some OpenRead
open_reads OpenRead = Some OpenRead
open_reads at = None

abbrev pub open_writes : ℕ → LastCall → Option LastCall
open_writes whole OpenRead = Some (SnapshotWriting (piece_end 0 whole) whole)
open_writes whole (SnapshotWriting done all) = if nat_lt done all then Some (SnapshotWriting (piece_end done all) all) else None
open_writes whole SnapshotSynced = Some SelectorWritten
open_writes whole at = None

-- What is written of the state that is read, its sessions included, and of what a restart leaves of that state. Each is an area of the
-- second version.
abbrev pub copy_of : Reading → List ℕ
copy_of r = closed_snapshot Two (snapshot_of r.state)

abbrev pub rest_of : Reading → List ℕ
rest_of r = closed_snapshot Two (snapshot_of (restarted r.state))

-- the commands that are taken and not stored, under a number
abbrev pub batch : WorldValue → ℕ → List CommandValue
batch w to = between w.base w.history w.stored to

-- how many of these commands, from the first on, have records of no more than so many bytes together
abbrev pub as_many : ℕ → List CommandValue → ℕ
as_many room [] = 0
as_many room (c ∷ cs) = if nat_le (length (record_of c)) room then suc (as_many (room - length (record_of c)) cs) else 0

-- The number under which commands go into the next block: of what is taken and not stored the longest part that fits, with the gate after
-- it.
abbrev pub fitting : WorldValue → Reading → ℕ
fitting w r = w.stored + as_many (w.disk.size - (r.gate + 10)) (batch w w.taken)

-- the same, if this is read of the disk
abbrev pub leads : WorldValue → Reading → CallList → CallKind → Option LastCall
leads w r Append Read = None
leads w r Append Write = append_writes (fitting w r) w.place
leads w r Append Sync = append_syncs w.place
leads w r Snapshot Read = None
leads w r Snapshot Write = copy_writes (length (copy_of r)) w.place
leads w r Snapshot Sync = copy_syncs w.place
leads w r Switch Read = None
leads w r Switch Write = switch_writes w.place
leads w r Switch Sync = switch_syncs w.place
leads w r Open Read = open_reads w.place
leads w r Open Write = open_writes (length (rest_of r)) w.place
leads w r Open Sync = open_syncs w.place

-- there is something to store under that number, and its block fits with the gate after it
pub record MayStore (w : WorldValue) (r : Reading) (to : ℕ) : Type 0 where
  pub some : w.stored < to
  pub fits : r.gate + 10 + length (records (batch w to)) ≤ w.disk.size

-- The state that is read has a snapshot, which fits into an area of this length with the gate after it. The state's count is not too large
-- for the journal to be opened again.
pub record CanCopy (size : ℕ) (r : Reading) : Type 0 where
  pub low : r.state.count ≤ most_counted
  pub spelled : Spells (snapshot_of r.state) r.state
  pub fits : length (snapshot_of r.state) + 9 ≤ size

-- A new life may begin with the count of what was read. What a restart leaves of that has a snapshot, which fits into an area of this
-- length with the gate after it.
pub record CanRestart (size : ℕ) (r : Reading) : Type 0 where
  pub low : r.state.count ≤ most_counted
  pub spelled : Spells (snapshot_of (restarted r.state)) (restarted r.state)
  pub fits : length (snapshot_of (restarted r.state)) + 9 ≤ size

-- what a call that leads to a place asks for
abbrev pub MayLead : WorldValue → Reading → LastCall → Type 0
MayLead w r (BlockWritten to) = MayStore w r to
MayLead w r (Copying done all) = CanCopy w.disk.size r
MayLead w r (SnapshotWriting done all) = CanRestart w.disk.size r
MayLead w r to = Unit {0}

-- where the closed gate of the live area is on the disk
abbrev pub gate_of : DiskValue → Reading → ℕ
gate_of d r = start d.size (is_odd (slice_index d.content 16)) + r.gate

-- where the idle area begins
abbrev pub idle_of : DiskValue → ℕ
idle_of d = start d.size (other (is_odd (slice_index d.content 16)))

-- bytes, and where they are written
pub record Patch : Type 0 where
  pub at : ℕ
  pub bytes : List ℕ

abbrev pub patch : ℕ → List ℕ → Patch
patch at bytes = record { at = at; bytes = bytes }

-- how much is written of a snapshot
abbrev pub done_at : LastCall → ℕ
done_at (Copying done all) = done
done_at (SnapshotWriting done all) = done
done_at at = 0

-- these bytes from one place on up to another, with the place where the whole of them begins
abbrev pub piece : ℕ → ℕ → ℕ → List ℕ → Patch
piece begins from to bytes = patch (begins + from) (take (to - from) (drop from bytes))

-- What the write that leads to a place writes. It is a block and the next gate, the block's own gate as 1, a piece of a snapshot, or the
-- selector plus 1.
abbrev pub patch_to : WorldValue → Reading → LastCall → Patch
patch_to w r (BlockWritten to) = patch (gate_of w.disk r + 1) (closed (records (batch w to)))
patch_to w r (GateWritten to) = patch (gate_of w.disk r) (1 ∷ [])
patch_to w r (Copying done all) = piece (idle_of w.disk) (done_at w.place) done (copy_of r)
patch_to w r SwitchWritten = patch 16 (((slice_index w.disk.content 16 + 1) % 256) ∷ [])
patch_to w r (SnapshotWriting done all) = piece (idle_of w.disk) (done_at w.place) done (rest_of r)
patch_to w r SelectorWritten = patch 16 (((slice_index w.disk.content 16 + 1) % 256) ∷ [])
patch_to w r to = patch 0 []

-- the disk once these bytes are written, and so unsynced
abbrev pub wrote : DiskValue → Patch → DiskValue
wrote d p = record d { content = patched p.at p.bytes d.content; held = held_over p.at (length p.bytes) d.held d.content }

-- the disk once all is stable
abbrev pub synced : DiskValue → DiskValue
synced d = record d { held = none_held (length d.content) }

-- the disk after a call: even a write that fails leaves its range unsynced, and a sync that fails makes nothing stable
abbrev pub disk_after : WorldValue → Reading → CallKind → Bool → LastCall → DiskValue
disk_after w r Read ok to = w.disk
disk_after w r Write ok to = wrote w.disk (patch_to w r to)
disk_after w r Sync true to = synced w.disk
disk_after w r Sync false to = w.disk

abbrev pub with_disk : WorldValue → DiskValue → WorldValue
with_disk w d = record w { disk = d }

-- a call that fails breaks the list off
abbrev pub place_after : Bool → LastCall → LastCall
place_after true to = to
place_after false to = Broken

-- all of a block is stored once its gate is synced
abbrev pub stored_after : ℕ → LastCall → Bool → ℕ
stored_after stored (GateWritten to) true = to
stored_after stored at ok = stored

-- the beginning of a list of Open ends the running life
abbrev pub phase_after : CallList → Period → Period
phase_after Open Running = Reopening
phase_after list phase = phase

-- the world after a call from a place, which leads to another if it succeeds
abbrev pub called : WorldValue → Reading → Call → LastCall → Option LastCall → WorldValue
called w r call at None = w
called w r call at (Some to) = record w {
  stored = stored_after w.stored at call.ok;
  phase = phase_after call.list w.phase;
  place = place_after call.ok to;
  disk = disk_after w r call.kind call.ok to;
}
