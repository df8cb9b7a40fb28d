-- What the steps of an area may leave, and why they fail.
use Rattle.std.specs.Prelude.{◌≡◌, ◌⊎◌, ◌<◌, ◌≤◌, ◌+◌, ◌^◌, ℕ, List, [], ◌∷◌, ◌++◌, Result, Ok, Err}
use Rattle.disk_core.specs.Faults.{IsOneMore}
use Rattle.command_core.specs.Commands.{CommandValue}
use Rattle.area_core.specs.declared.area.Area.{Area}
use Rattle.area_core.specs.declared.faults.AreaFault.{AreaFault}
use Rattle.area_core.specs.declared.faults.AreaFault.TheVariants.{Device, Full, Broken, Memory}
use Rattle.area_core.specs.declared.faults.FormatFault.{FormatFault}
use Rattle.area_core.specs.declared.faults.FormatFault.TheVariants as faults
use Rattle.area_core.specs.Held.{IsAt}
use Rattle.area_core.specs.Journals.{Reads}
use Rattle.area_core.specs.Puts.{Each}

-- If each image held the same at the start, an image of now reads as that, or as that and then all of the batch.
abbrev pub IsBeforeOrAfter : (List ℕ → Type 0) → Area → List CommandValue → List ℕ → Type 0
IsBeforeOrAfter images area batch c =
    (snapshot : List ℕ) (blocks : List (List CommandValue)) → Each images (IsAt area snapshot blocks)
    → IsAt area snapshot blocks c ⊎ Reads area.version area.size area.selector snapshot (blocks ++ batch ∷ []) c

-- An area of `size` bytes has no room for a snapshot of `count`. Either the snapshot doesn't fit with its length before it and a gate after
-- it, or its length doesn't fit into seven bytes.
abbrev pub HasNoRoom : ℕ → ℕ → Type 0
HasNoRoom size count = (size < count + 9) ⊎ (2 ^ 56 ≤ count)

-- the disk failed just if that is the answer
abbrev pub IsCaused : {T : Type 0} → ℕ → ℕ → Result T AreaFault → Type 0
IsCaused before now (Ok _) = now ≡ before
IsCaused before now (Err Device) = IsOneMore before now
IsCaused before now (Err Full) = now ≡ before
IsCaused before now (Err Broken) = now ≡ before
IsCaused before now (Err (Memory _)) = now ≡ before

-- the same for formatting
abbrev pub IsFormatCaused : ℕ → ℕ → Result (Unit {0}) FormatFault → Type 0
IsFormatCaused before now (Ok _) = now ≡ before
IsFormatCaused before now (Err faults.Device) = IsOneMore before now
IsFormatCaused before now (Err _) = now ≡ before

-- if formatting was refused before anything was written, this holds
abbrev pub IsBeforeWriting : Result (Unit {0}) FormatFault → Type 0 → Type 0
IsBeforeWriting (Err faults.TooSmall) P = P
IsBeforeWriting (Err (faults.Memory _)) P = P
IsBeforeWriting _ P = Unit {0}

-- if memory was refused, this holds
abbrev pub IfMemory : {T : Type 0} → Result T AreaFault → Type 0 → Type 0
IfMemory (Err (Memory _)) P = P
IfMemory _ P = Unit {0}
