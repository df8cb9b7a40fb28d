-- When a block does not fit into the journal.
use Rattle.std.specs.Prelude.{◌≡◌, ◌⊎◌, ◌<◌, ◌≤◌, ◌+◌, ◌-◌, ℕ, List, Some, length, take}
use Rattle.command_core.specs.Commands.{CommandValue}
use Rattle.area_core.specs.declared.version.Version.{Version}
use Rattle.area_core.specs.Areas.{front, records}
use Rattle.area_core.specs.Journals.{Reads}
use Rattle.broker_core.specs.States.{State}
use Rattle.snapshot_core.specs.Snapshots.{snapshot_of}
use Rattle.recover_core.specs.Compactions.{HasNoRoomFor}
use Rattle.recover_core.specs.Opens.{HoldsOnlySnapshot}
use Rattle.recover_core.specs.Standing.{Leads}
use Rattle.flush_core.specs.Flusher.{Latest}

-- how many bytes of an area are used if it holds only a snapshot of this state: eight of length, the snapshot, and a gate
abbrev pub used_afresh : State → ℕ
used_afresh s = length (snapshot_of s) + 9

-- After `used` bytes an area of that size has room for a block of these commands: eight bytes of length, the records, and the closed gate
-- after them.
abbrev pub Fits : (size used : ℕ) → List CommandValue → Type 0
Fits size used cs = used + 9 + length (records cs) ≤ size

-- and here it has no room
abbrev pub IsTooLong : (size used : ℕ) → List CommandValue → Type 0
IsTooLong size used cs = size < used + 9 + length (records cs)

-- The first `count` of these commands are as many as an area has room for after `used` bytes, but at least one. They are all of them if
-- their block fits; otherwise one more would be too many.
pub record IsLongest (size used : ℕ) (cs : List CommandValue) (count : ℕ) : Type 0 where
  pub some : 0 < count
  pub within : count ≤ length cs
  pub all : Fits size used cs → count ≡ length cs
  pub more : count < length cs → IsTooLong size used (take (count + 1) cs)

-- What is stored of these commands, from the number `first` on, after a snapshot of this state: the first `count`, and `used` bytes of the
-- area are then used. The snapshot won the bytes that were used before, less those that it uses itself. It has all before `first`, and the
-- block begins there.
pub record StoresAfresh (size before first : ℕ) (s : State) (cs : List CommandValue) (count used : ℕ) (last : Latest) : Type 0 where
  pub longest : IsLongest size (used_afresh s) cs count
  pub fits : Fits size (used_afresh s) (take count cs)
  pub used_is : used ≡ used_afresh s + 9 + length (records (take count cs))
  pub last_is : last ≡ record { won = Some (before - used_afresh s); since = first; counted = first; block = first }

-- The image stands for this state, and its live area is too short for a block of these commands. The block is a gate, eight bytes of
-- length, the records, and the closed gate after them.
pub record LacksRoom (image : List ℕ) (s : State) (cs : List CommandValue) : Type 0 where
  pub version : Version
  pub size : ℕ
  pub selector : ℕ
  pub snapshot : List ℕ
  pub blocks : List (List CommandValue)
  pub reads : Reads version size selector snapshot blocks image
  pub leads : Leads version snapshot blocks s
  pub short : size < length (front version snapshot blocks) + 10 + length (records cs)

abbrev pub HasNoRoom : List ℕ → State → List CommandValue → Type 0
HasNoRoom image s cs = ∥ LacksRoom image s cs ∥₁

-- the image stands for this state, and no snapshot of it fits into an area of its journal
pub record LacksRoomForState (image : List ℕ) (s : State) : Type 0 where
  pub version : Version
  pub size : ℕ
  pub selector : ℕ
  pub snapshot : List ℕ
  pub blocks : List (List CommandValue)
  pub reads : Reads version size selector snapshot blocks image
  pub leads : Leads version snapshot blocks s
  pub none : HasNoRoomFor size s

abbrev pub HasNoRoomForState : List ℕ → State → Type 0
HasNoRoomForState image s = ∥ LacksRoomForState image s ∥₁

-- the image holds only a snapshot of this state, and a block of these commands does not fit after it
pub record LacksRoomAfresh (image : List ℕ) (s : State) (cs : List CommandValue) : Type 0 where
  pub size : ℕ
  pub used : ℕ
  pub holds : HoldsOnlySnapshot size used s image
  pub short : IsTooLong size used cs

-- the journal is compacted, if a snapshot fits, and has no room for a block of these commands
abbrev pub HasNoRoomLeft : List ℕ → State → List CommandValue → Type 0
HasNoRoomLeft image s cs = ∥ LacksRoomForState image s ⊎ LacksRoomAfresh image s cs ∥₁
