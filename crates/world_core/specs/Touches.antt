-- What the parts of a world do for a call of the device.
use Rattle.std.specs.Prelude.{◌≡◌, ◌+◌, ◌≤◌, ℕ, List, Bool, true, false, MatchBool, Option, Some, IsSomeAnd, length, slice_index}
use Rattle.area_core.specs.Areas.{closed}
use Rattle.area_core.specs.Journals.{is_odd, start}
use Rattle.broker_core.specs.States.{State}
use Rattle.world_core.specs.declared.event.CallKind.{CallKind}
use Rattle.world_core.specs.declared.event.CallKind.TheVariants.{Write}
use Rattle.world_core.specs.declared.event.CallList.{CallList}
use Rattle.world_core.specs.declared.event.CallList.TheVariants.{Append, Snapshot, Open}
use Rattle.world_core.specs.declared.parts.LastCall.{LastCall}
use Rattle.world_core.specs.declared.parts.LastCall.TheVariants.{BlockWritten, Copying, SnapshotWriting}
use Rattle.world_core.specs.Calls.{MayLead, copy_of, disk_after, done_at, fitting, leads, patch, patch_to, rest_of, with_disk}
use Rattle.world_core.specs.Events.{reopened}
use Rattle.world_core.specs.Readings.{IsRead, Reading}
use Rattle.world_core.specs.Worlds.{DiskValue, WorldValue}

-- the bytes from one place on up to another are there
abbrev pub HasPiece : ℕ → ℕ → List ℕ → Type 0
HasPiece from to bytes = (from ≤ to) × (to ≤ length bytes)

-- a block has the longest part of what is taken that fits, and a piece is a part of what there is to write
abbrev pub IsDue : WorldValue → LastCall → Type 0
IsDue w (BlockWritten to) = (r : Reading) → IsRead w.disk.size w.disk.content r → to ≡ fitting w r
IsDue w (Copying done all) = (r : Reading) → IsRead w.disk.size w.disk.content r → HasPiece (done_at w.place) done (copy_of r)
IsDue w (SnapshotWriting done all) = (r : Reading) → IsRead w.disk.size w.disk.content r → HasPiece (done_at w.place) done (rest_of r)
IsDue w to = Unit {0}

-- whatever is read of the disk, the next call of that list and kind leads there
abbrev pub LeadsTo : WorldValue → CallList → CallKind → LastCall → Type 0
LeadsTo w list kind to = (r : Reading) → IsRead w.disk.size w.disk.content r → leads w r list kind ≡ Some to

-- it may not come
abbrev pub LeadsNowhere : WorldValue → CallList → CallKind → Type 0
LeadsNowhere w list kind = (r : Reading) → IsRead w.disk.size w.disk.content r → IsSomeAnd (leads w r list kind) (MayLead w r) → ⊥

-- the call may be the write of a block or of a snapshot, and where it leads depends on what is read of the disk
abbrev pub is_measured : CallList → CallKind → Bool
is_measured Append Write = true
is_measured Snapshot Write = true
is_measured Open Write = true
is_measured list kind = false

-- but for these, the call leads there whatever is read
abbrev pub IsLead : WorldValue → CallList → CallKind → Option LastCall → Type 0
IsLead w list kind found = is_measured list kind ≡ false → (r : Reading) → found ≡ leads w r list kind

-- the write that leads there may come, and writes these bytes at that offset, whatever is read of the disk
abbrev pub IsPatch : WorldValue → LastCall → ℕ → List ℕ → Type 0
IsPatch w to at bytes = (r : Reading) → IsRead w.disk.size w.disk.content r → MayLead w r to × (patch at bytes ≡ patch_to w r to)

-- a block of these records stands behind that gate, and fits with the gate after it
abbrev pub IsBlockPatch : DiskValue → ℕ → List ℕ → ℕ → List ℕ → Type 0
IsBlockPatch d gate records at bytes =
    (at ≡ start d.size (is_odd (slice_index d.content 16)) + gate + 1) × (bytes ≡ closed records) × (gate + 10 + length records ≤ d.size)

-- it may not come
abbrev pub IsNoPatch : WorldValue → LastCall → Type 0
IsNoPatch w to = (r : Reading) → IsRead w.disk.size w.disk.content r → MayLead w r to → ⊥

-- the call is made on the disk, or may not come
abbrev pub IsTouched : WorldValue → CallKind → Bool → LastCall → Bool → WorldValue → Type 0
IsTouched old kind ok to answer new =
    (r : Reading) → IsRead old.disk.size old.disk.content r → MatchBool answer (MayLead old r to × (new ≡ with_disk old (disk_after old r kind ok to))) ((MayLead old r to → ⊥) × (new ≡ old))

-- a new life, once the released numbers have gone to the earlier ones
abbrev pub begun : WorldValue → State → WorldValue
begun w s = record (reopened w s) { earlier = w.earlier }
