-- What a call of a store leaves, by its answer.
use Rattle.std.specs.Prelude.{◌≡◌, ◌<◌, ◌≤◌, ◌+◌, ◌^◌, ℕ, List, Result, true, false, length, IsErrOf, OnErr, OnOk}
use Rattle.command_core.specs.Commands.{CommandValue}
use Rattle.disk_core.specs.declared.disk.Disk.{Ghosts}
use Rattle.disk_core.specs.Calls.{Throughout}
use Rattle.area_core.specs.declared.area.Area.{Area}
use Rattle.area_core.specs.declared.faults.AreaFault.{AreaFault}
use Rattle.area_core.specs.declared.faults.AreaFault.TheVariants.{Broken, Device, Full}
use Rattle.area_core.specs.Areas.{number, records}
use Rattle.area_core.specs.Held.{IsAt}
use Rattle.area_core.specs.Puts.{Each}
use Rattle.area_core.specs.Steps.{IfMemory, IsCaused}
use Rattle.broker_core.specs.States.{State}
use Rattle.broker_core.specs.Steps.{state_after}
use Rattle.snapshot_core.specs.Snapshots.{snapshot_of}
use Rattle.recover_core.specs.declared.store.Store.{Store}
use Rattle.recover_core.specs.Compactions.{HasNoRoomFor, HoldsItAlone, IsRestOrTwice}
use Rattle.recover_core.specs.Opens.{HasWritten}
use Rattle.recover_core.specs.Standing.{StandFor, Stands, StandsForEither}
use Rattle.recover_core.specs.Stores.{disk_of, idle_of, is_broken, opened_by, size_of, used_of}

-- Areas have as many bytes as before, and the broker that was opened is still to be handed out if it was before.
pub record KeepsOpened {D : Type 0} {disk : Ghosts D} (old new : Store D disk) : Type 0 where
  pub size : size_of new ≡ size_of old
  pub opened : opened_by new ≡ opened_by old

-- A call that fails breaks the store. A broken store answers `Broken` to each call, and nothing changes; no other store answers that. The
-- disk failed just if that is the answer.
pub record StoreBreaks {D T : Type 0} (disk : Ghosts D) (old new : Store D disk) (result : Result T AreaFault) : Type 0 where
  pub broken : is_broken old ≡ true → IsErrOf result Broken × (disk_of new ≡ disk_of old)
  pub same : is_broken old ≡ true → new ≡ old
  pub sound : IsErrOf result Broken → is_broken old ≡ true
  pub ok : OnOk result (is_broken new ≡ false)
  pub err : OnErr result (is_broken new ≡ true)
  pub cause : IsCaused (disk.failures (disk_of old)) (disk.failures (disk_of new)) result

-- If each image stood for a state, an image at any moment of the call stands for that state, or for the state after the batch.
abbrev pub StandsThroughout : {D : Type 0} (disk : Ghosts D) → Store D disk → Store D disk → List CommandValue → Type 0
StandsThroughout disk old new batch = (s : State) → StandFor (disk.images (disk_of old)) s → Throughout disk (disk_of old) (disk_of new) (StandsForEither s (state_after s batch))

-- If each image stood for a state, each now stands for the state after the batch. The block of the batch follows what was used.
pub record StoreAdds {D : Type 0} (disk : Ghosts D) (old new : Store D disk) (batch : List CommandValue) : Type 0 where
  pub stands : disk.honest (disk_of old) → (s : State) → StandFor (disk.images (disk_of old)) s → StandFor (disk.images (disk_of new)) (state_after s batch)
  pub used : used_of new ≡ used_of old + 9 + length (records batch)

-- If the answer is `Full`, the block with the gate after it doesn't fit. The disk stays then, and also if memory was refused.
pub record StoreRefuses {D T : Type 0} (disk : Ghosts D) (old new : Store D disk) (batch : List CommandValue) (result : Result T AreaFault) : Type 0 where
  pub full : IsErrOf result Full → (size_of old < used_of old + 9 + length (records batch)) × (disk_of new ≡ disk_of old)
  pub memory : IfMemory result (disk_of new ≡ disk_of old)

-- the state's snapshot can be spelled, and fits into an area of `size` bytes, with its length before it and a gate after it
pub record HasRoomFor (size : ℕ) (s : State) : Type 0 where
  pub sessions : length s.sessions < 2 ^ 32
  pub subscriptions : length s.subscriptions < 2 ^ 32
  pub fits : length (snapshot_of s) + 9 ≤ size

-- If each image had an area, each now has one that holds a snapshot of the state alone.
pub record WritesState {D : Type 0} (disk : Ghosts D) (old new : Area) (before after : D) (s : State) : Type 0 where
  pub written : disk.honest before → (snapshot : List ℕ) (blocks : List (List CommandValue)) → Each (disk.images before) (IsAt old snapshot blocks) → HasWritten (disk.images after) new s
  pub used : new.gate ≡ length (snapshot_of s) + 8

-- A whole area with room is whole after a call that succeeds, and after one that fails only if nothing changed. The disk failed just if
-- that is the answer, and then the area is broken.
pub record BreaksOrKeeps {D T : Type 0} (disk : Ghosts D) (old new : Area) (before after : D) (result : Result T AreaFault) : Type 0 where
  pub full : IsErrOf result Full → ⊥
  pub sound : IsErrOf result Broken → ⊥
  pub ok : OnOk result (new.broken ≡ false)
  pub kept : OnErr result (new.broken ≡ false → (after ≡ before) × (new ≡ old))
  pub device : IsErrOf result Device → new.broken ≡ true
  pub cause : IsCaused (disk.failures before) (disk.failures after) result

-- the area has as many bytes as before, and is of the second version if it was
pub record KeepsKind (old new : Area) : Type 0 where
  pub size : new.size ≡ old.size
  pub version : number old.version ≡ 2 → number new.version ≡ 2

-- Each image holds a snapshot of the state alone, and nothing more of an area is used.
pub record Compacts {D : Type 0} (disk : Ghosts D) (old new : Store D disk) (s : State) : Type 0 where
  pub alone : disk.honest (disk_of old) → Each (disk.images (disk_of new)) (HoldsItAlone (size_of new) (used_of new) s)
  pub used : used_of new ≡ length (snapshot_of s) + 9

-- until a step fails, each image of an honest disk stands for the state
abbrev pub StandsUnbroken : {D : Type 0} (disk : Ghosts D) → Store D disk → State → Type 0
StandsUnbroken disk store s = disk.honest (disk_of store) → is_broken store ≡ false → StandFor (disk.images (disk_of store)) s

-- while a store is compacted, an image stands for its state, by one area or by both
pub record IsCompacting {D : Type 0} (disk : Ghosts D) (old : Store D disk) (s : State) (c : List ℕ) : Type 0 where
  pub stands : Stands c s
  pub two : IsRestOrTwice (idle_of old) (size_of old) (disk.images (disk_of old)) s c

-- If the answer is `Full`, the state has no room, and nothing changed. A broken store answers `Broken` to each call, and nothing changes;
-- no other store answers that. A store that isn't broken after a call that failed has the disk as it was. The disk failed just if that is
-- the answer, and then the store is broken.
pub record CompactBreaks {D T : Type 0} (disk : Ghosts D) (old new : Store D disk) (s : State) (result : Result T AreaFault) : Type 0 where
  pub full : IsErrOf result Full → HasNoRoomFor (size_of old) s × (new ≡ old)
  pub broken : is_broken old ≡ true → IsErrOf result Broken × (disk_of new ≡ disk_of old)
  pub same : is_broken old ≡ true → new ≡ old
  pub sound : IsErrOf result Broken → is_broken old ≡ true
  pub ok : OnOk result (is_broken new ≡ false)
  pub device : IsErrOf result Device → is_broken new ≡ true
  pub kept : OnErr result (is_broken new ≡ false → disk_of new ≡ disk_of old)
  pub cause : IsCaused (disk.failures (disk_of old)) (disk.failures (disk_of new)) result
