-- What a disk may hold while a journal is made on it.
use Rattle.std.specs.Prelude.{◌≡◌, ◌⊎◌, ◌<◌, ◌≤◌, ◌+◌, ◌*◌, ◌^◌, ℕ, List, [], ◌++◌, codes, drop, length, replicate, take, Result, Ok, Err, IsErrOf}
use Rattle.std.specs.Int.{w64, to_be_bytes}
use Rattle.disk_core.specs.declared.disk.Disk.{Ghosts}
use Rattle.disk_core.specs.Faults.{IsOneMore}
use Rattle.disk_core.specs.Images.{Only, Torn}
use Rattle.area_core.specs.declared.formatting.MakeFault.{MakeFault}
use Rattle.area_core.specs.declared.formatting.MakeFault.TheVariants.{TooSmall, Full, Device, Memory}
use Rattle.area_core.specs.declared.version.Version.TheVariants.{Two}
use Rattle.area_core.specs.Areas.{IsArea}
use Rattle.area_core.specs.Damage.{IsNoJournal, IsOtherVersion}
use Rattle.area_core.specs.Journals.{Reads, new_header}
use Rattle.area_core.specs.Puts.{Each}
use Rattle.area_core.specs.Steps.{HasNoRoom}

-- the bytes begin with the name of a journal
abbrev pub IsNamed : List ℕ → Type 0
IsNamed content = take 6 content ≡ codes "STOMPJ"

-- a disk that had the name has any bytes for it, or there is no name
abbrev pub IsUnnaming : List ℕ → List ℕ → Type 0
IsUnnaming before c = (IsNamed before × Torn 0 8 before c) ⊎ IsNoJournal c

-- While a journal is made, a stop leaves one of three: what was there, with any bytes for the name if that was a journal's; no journal, or
-- one of no version, which opening refuses; or the whole journal.
abbrev pub IsMaking : List ℕ → (List ℕ → Type 0) → List ℕ → Type 0
IsMaking before whole c = IsUnnaming before c ⊎ (IsOtherVersion c ⊎ whole c)

-- the disk has no name, and after that the header of a journal with areas of `size` bytes; nothing is unsynced
pub record IsBegun {D : Type 0} (disk : Ghosts D) (now : D) (size : ℕ) : Type 0 where
  pub unnamed : IsNoJournal (disk.content now)
  pub sized : take 24 (drop 8 (disk.content now)) ≡ to_be_bytes w64 size ++ replicate 16 0
  pub only : Only (disk.content now) (disk.images now)

-- all of a journal but its name
pub record IsUnnamed (size : ℕ) (snapshot content : List ℕ) : Type 0 where
  pub sized : take 24 (drop 8 content) ≡ to_be_bytes w64 size ++ replicate 16 0
  pub area : IsArea Two size snapshot [] (drop 32 content)
  pub least : 4096 ≤ size
  pub most : 32 + 2 * size < 2 ^ 64
  pub fits : 32 + 2 * size ≤ length content

-- Each image is a journal of the second version, with areas of `size` bytes, whose first area is live and has this snapshot and no block. It
-- begins with the header of a new journal. Nothing is unsynced.
pub record Makes {D : Type 0} (disk : Ghosts D) (after : D) (size : ℕ) (snapshot : List ℕ) : Type 0 where
  pub made : Each (disk.images after) (Reads Two size 0 snapshot [])
  pub begins : Each (disk.images after) (λ c. take 32 c ≡ new_header size)
  pub only : Only (disk.content after) (disk.images after)

-- If the areas would be too small, or the snapshot doesn't fit, nothing was written.
pub record RefusesToMake {D : Type 0} (disk : Ghosts D) (before after : D) (size : ℕ) (snapshot : List ℕ) (result : Result (Unit {0}) MakeFault) : Type 0 where
  pub small : IsErrOf result TooSmall → ((size < 4096) ⊎ (length (disk.content before) < 32 + 2 * size)) × (after ≡ before)
  pub full : IsErrOf result Full → HasNoRoom size (length snapshot) × (after ≡ before)

-- the disk failed just if that is the answer
abbrev pub IsMakeCaused : ℕ → ℕ → Result (Unit {0}) MakeFault → Type 0
IsMakeCaused before now (Ok _) = now ≡ before
IsMakeCaused before now (Err Device) = IsOneMore before now
IsMakeCaused before now (Err _) = now ≡ before
