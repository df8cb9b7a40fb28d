-- What a call leaves of an area, by its answer.
use Rattle.std.specs.Prelude.{◌≡◌, ◌<◌, ◌≤◌, ◌+◌, ◌-◌, ◌*◌, ◌%◌, ◌++◌, ◌∷◌, [], ℕ, List, Result, true, false, drop, length, take, IfOk, IsErrOf, OnErr, OnOk}
use Rattle.command_core.specs.Commands.{CommandValue}
use Rattle.disk_core.specs.declared.disk.Disk.{Ghosts}
use Rattle.disk_core.specs.Images.{Only, Torn, patched}
use Rattle.area_core.specs.declared.area.Area.{Area}
use Rattle.area_core.specs.declared.faults.AreaFault.{AreaFault}
use Rattle.area_core.specs.declared.faults.AreaFault.TheVariants.{Broken, Full}
use Rattle.area_core.specs.declared.version.Version.TheVariants.{Two}
use Rattle.area_core.specs.Areas.{closed_snapshot, first_snapshot, records}
use Rattle.area_core.specs.Closing.{closing, heading}
use Rattle.area_core.specs.Held.{IsAt}
use Rattle.area_core.specs.Journals.{Reads, new_header}
use Rattle.area_core.specs.Puts.{Each}
use Rattle.area_core.specs.Steps.{IfMemory, IsCaused}
use Rattle.area_core.specs.Switches.{HasIdle, idle_start}

-- A call that fails breaks the area. A broken area answers `Broken` to each call, and nothing changes; no other area answers that. The disk
-- failed just if that is the answer.
pub record Breaks {D T : Type 0} (disk : Ghosts D) (old new : Area) (before after : D) (result : Result T AreaFault) : Type 0 where
  pub broken : old.broken ≡ true → IsErrOf result Broken × (after ≡ before)
  pub same : old.broken ≡ true → new ≡ old
  pub sound : IsErrOf result Broken → old.broken ≡ true
  pub ok : OnOk result (new.broken ≡ false)
  pub err : OnErr result (new.broken ≡ true)
  pub cause : IsCaused (disk.failures before) (disk.failures after) result

-- the live area is the same one, in as many bytes and of the same version
pub record InPlace (old new : Area) : Type 0 where
  pub size : new.size ≡ old.size
  pub selector : new.selector ≡ old.selector
  pub version : new.version ≡ old.version

-- Each image holds what each held before, and after that the batch in a block. Nothing is unsynced.
pub record Adds {D : Type 0} (disk : Ghosts D) (old new : Area) (before after : D) (batch : List CommandValue) : Type 0 where
  pub behind : disk.honest before → (snapshot : List ℕ) (blocks : List (List CommandValue))
      → Each (disk.images before) (IsAt old snapshot blocks) → Each (disk.images after) (IsAt new snapshot (blocks ++ batch ∷ []))
  pub only : disk.honest before → Only (disk.content after) (disk.images after)
  pub used : new.gate ≡ old.gate + 9 + length (records batch)

-- If the answer is `Full`, the block with the gate after it doesn't fit. Nothing was written then, nor if memory was refused.
pub record RefusesBlock {D T : Type 0} (old : Area) (before after : D) (batch : List CommandValue) (result : Result T AreaFault) : Type 0 where
  pub full : IsErrOf result Full → (old.size < old.gate + 10 + length (records batch)) × (after ≡ before)
  pub memory : IfMemory result (after ≡ before)

-- The call lacks neither room nor memory.
pub record NeedsNothing {T : Type 0} (result : Result T AreaFault) : Type 0 where
  pub room : IsErrOf result Full → ⊥
  pub memory : IfMemory result ⊥

-- the live area is the same one, in as many bytes, of the same version, and up to the same gate
pub record InPlaceTo (old new : Area) : Type 0 where
  pub size : new.size ≡ old.size
  pub selector : new.selector ≡ old.selector
  pub gate : new.gate ≡ old.gate
  pub version : new.version ≡ old.version

-- Each image has that snapshot in the area that is not live, and no block. Nothing is unsynced.
pub record WritesIdle {D : Type 0} (disk : Ghosts D) (new : Area) (before after : D) (snapshot : List ℕ) : Type 0 where
  pub idle : disk.honest before → Each (disk.images after) (HasIdle new snapshot)
  pub only : disk.honest before → Only (disk.content after) (disk.images after)
  pub written : new.written ≡ length snapshot

-- The area that was not live is live now: each image has there what each had there before. The selector has gone on by one, and nothing is
-- unsynced.
pub record Switches {D : Type 0} (disk : Ghosts D) (old new : Area) (before after : D) : Type 0 where
  pub live : disk.honest before → (snapshot : List ℕ) (blocks : List (List CommandValue)) (next : List ℕ)
      → Each (disk.images before) (IsAt old snapshot blocks) → Each (disk.images before) (HasIdle old next)
      → Each (disk.images after) (IsAt new next [])
  pub only : disk.honest before → Only (disk.content after) (disk.images after)
  pub version : new.version ≡ Two
  pub gate : new.gate ≡ old.written + 8
  pub selector : new.selector ≡ (old.selector + 1) % 256

-- the area is whole, and the disk has both
pub record IsReady (area : Area) (content : List ℕ) : Type 0 where
  pub room : 32 + 2 * area.size ≤ length content
  pub whole : area.broken ≡ false

-- A whole area with room is broken after a call just if the disk failed or memory was refused. The answer says which.
pub record BreaksWhole {D T : Type 0} (disk : Ghosts D) (new : Area) (before after : D) (result : Result T AreaFault) : Type 0 where
  pub room : IsErrOf result Full → ⊥
  pub sound : IsErrOf result Broken → ⊥
  pub ok : OnOk result (new.broken ≡ false)
  pub err : OnErr result (new.broken ≡ true)
  pub cause : IsCaused (disk.failures before) (disk.failures after) result

-- The bytes are in the area that is not live, from its offset `at` on. If the disk failed, any bytes may be there.
pub record Overwrites (area : Area) (at : ℕ) (bytes before after : List ℕ) (result : Result (Unit {0}) AreaFault) : Type 0 where
  pub whole : OnOk result (after ≡ patched (idle_start area + at) bytes before)
  pub torn : Torn (idle_start area) area.size before after

-- The snapshot stands in the area that is not live, between its first word and a closed gate. The rest is as before.
abbrev pub WritesClosed : Area → List ℕ → List ℕ → List ℕ → Type 0
WritesClosed area snapshot before after = after ≡ patched (idle_start area) (closed_snapshot Two snapshot) before

-- The next piece of a snapshot is written after the bytes that were written before, and the rest is still to come.
pub record WritesNext {D : Type 0} (disk : Ghosts D) (area : Area) (before after : D) (at total : ℕ) (coming left : List ℕ) (result : Result ℕ AreaFault) : Type 0 where
  pub content : disk.honest before → OnOk result (disk.content after ≡ patched (idle_start area + at) (take 65536 (closing at total coming)) (disk.content before))
  pub count : IfOk result (λ n. n ≡ length (take 65536 (closing at total coming)))
  pub rest : OnOk result (left ≡ drop (65536 - length (heading at total)) coming)

-- Each image is an empty journal of the second version, with areas of `size` bytes, and begins with its header. Nothing is unsynced.
pub record Formats {D : Type 0} (disk : Ghosts D) (before after : D) (size : ℕ) : Type 0 where
  pub formatted : disk.honest before → Each (disk.images after) (Reads Two size 0 first_snapshot [])
  pub begins : disk.honest before → Each (disk.images after) (λ c. take 32 c ≡ new_header size)
  pub only : disk.honest before → Only (disk.content after) (disk.images after)
