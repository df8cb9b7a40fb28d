-- What was read of an area so far.
use Rattle.std.specs.Prelude.{◌≡◌, ◌<◌, ◌≤◌, ◌^◌, ℕ, List, Option, None, Some, [], ◌∷◌, ◌++◌, length, drop, IfSome}
use Rattle.std.specs.List.{AllByRecursion}
use Rattle.disk_core.specs.declared.disk.Disk.{Ghosts}
use Rattle.disk_core.specs.Images.{Same}
use Rattle.disk_core.specs.Moments.{LeavesOnly}
use Rattle.command_core.specs.Commands.{CommandValue}
use Rattle.area_core.specs.declared.area.Area.{Area}
use Rattle.area_core.specs.Areas.{IsBlock, front}
use Rattle.area_core.specs.Held.{IsAt}
use Rattle.area_core.specs.Journals.{IsJournal, is_odd, start}

-- the live area begins with this snapshot and these blocks, and the next gate is where the held area has it
pub record IsPast (area : Area) (snapshot : List ℕ) (blocks : List (List CommandValue)) (image : List ℕ) : Type 0 where
  pub journal : IsJournal area.size area.selector image
  pub rest : List ℕ
  pub whole : drop (start area.size (is_odd area.selector)) image ≡ front area.version snapshot blocks ++ rest
  pub gate : area.gate ≡ length (front area.version snapshot blocks)
  pub seven : length snapshot < 2 ^ 56
  pub each : AllByRecursion IsBlock blocks

-- nothing changed: the content stays, and so do the images, at each moment since
pub record Quiet {D : Type 0} (disk : Ghosts D) (old new : D) : Type 0 where
  pub content : disk.content new ≡ disk.content old
  pub images : Same (disk.images old) (disk.images new)
  pub leaves : LeavesOnly disk.moment disk.images_since old new (disk.images old)

-- Nothing is written: all of an honest disk stays. Any disk has as many bytes as before, and is honest just if it was.
pub record ReadsOnly {D : Type 0} (disk : Ghosts D) (old new : D) : Type 0 where
  pub quiet : disk.honest old → Quiet disk old new
  pub size : length (disk.content new) ≡ length (disk.content old)
  pub honest : disk.honest old → disk.honest new
  pub was_honest : disk.honest new → disk.honest old

-- the area is where it was, at the same gate or at a later one
pub record GoesOn (old new : Area) : Type 0 where
  pub size : new.size ≡ old.size
  pub selector : new.selector ≡ old.selector
  pub broken : new.broken ≡ old.broken
  pub version : new.version ≡ old.version
  pub gate : old.gate ≤ new.gate

-- after a block was read, the gate lies further on
abbrev pub MovesGate : {A : Type 0} → Area → Area → Option A → Type 0
MovesGate old new next = IfSome next (λ block. old.gate < new.gate)

-- what was read up to a gate is all, since that gate is closed
abbrev pub ReadsAll : Area → Area → List ℕ → Type 0
ReadsAll old new image = (snapshot : List ℕ) (blocks : List (List CommandValue)) → IsPast old snapshot blocks image → IsAt new snapshot blocks image

-- after what was read up to a gate, the block of these commands was read
abbrev pub ReadsBlock : Area → Area → List ℕ → List CommandValue → Type 0
ReadsBlock old new image commands = (snapshot : List ℕ) (blocks : List (List CommandValue)) → IsPast old snapshot blocks image → IsPast new snapshot (blocks ++ commands ∷ []) image

-- what was read behind a gate: the block of these commands, or nothing, since the gate is closed
abbrev pub ReadsNext : {A : Type 0} → (A → List CommandValue) → Area → Area → List ℕ → Option A → Type 0
ReadsNext commands old new image None = ReadsAll old new image
ReadsNext commands old new image (Some block) = ReadsBlock old new image (commands block)
