-- What a call leaves of a disk.
use Rattle.std.specs.Prelude.{◌≡◌, ℕ, List, Result, drop, length, take, OnErr, OnOk}
use Rattle.disk_core.specs.declared.disk.Disk.{Ghosts}
use Rattle.disk_core.specs.Images.{patched, Frees, Only, Same, Torn, Within}
use Rattle.disk_core.specs.Lasting.{Remains}
use Rattle.disk_core.specs.Moments.{LeavesOnly, Passes}

-- An honest disk that stops at any moment of the call is left with bytes that have P.
abbrev pub Throughout : {D : Type 0} → Ghosts D → D → D → (List ℕ → Type 0) → Type 0
Throughout disk old new P = disk.honest old → LeavesOnly disk.moment disk.images_since old new P

-- The disk has as many bytes as before, and is honest just if it was.
abbrev pub Lasts : {D : Type 0} → Ghosts D → D → D → Type 0
Lasts disk old new = Remains disk.content disk.honest old new

-- The disk was read from an offset on, as `Disk` has it: after `Ok` these bytes were there, and nothing changed.
pub record ReadsAt {D T E : Type 0} (disk : Ghosts D) (at : ℕ) (into found : List ℕ) (old new : D) (result : Result T E) : Type 0 where
  pub bytes : disk.honest old → OnOk result (found ≡ take (length into) (drop at (disk.content old)))
  pub content : disk.honest old → disk.content new ≡ disk.content old
  pub images : disk.honest old → Same (disk.images old) (disk.images new)
  pub time : disk.honest old → Passes disk.moment disk.images_since disk.images old new
  pub lasts : Lasts disk old new

-- Bytes were written from an offset on, as `Disk` has it: their range is unsynced, and after `Ok` it reads as they do.
pub record WritesAt {D T E : Type 0} (disk : Ghosts D) (at : ℕ) (bytes : List ℕ) (old new : D) (result : Result T E) : Type 0 where
  pub written : disk.honest old → OnOk result (disk.content new ≡ patched at bytes (disk.content old))
  pub content : disk.honest old → Torn at (length bytes) (disk.content old) (disk.content new)
  pub images : disk.honest old → Frees at (length bytes) (disk.images old) (disk.images new)
  pub time : disk.honest old → Passes disk.moment disk.images_since disk.images old new
  pub lasts : Lasts disk old new

-- The disk was synced, as `Disk` has it: after `Ok` nothing is unsynced, and after a failure as much as before.
pub record Syncs {D T E : Type 0} (disk : Ghosts D) (old new : D) (result : Result T E) : Type 0 where
  pub stable : disk.honest old → OnOk result (Only (disk.content old) (disk.images new))
  pub failed : disk.honest old → OnErr result (Same (disk.images old) (disk.images new))
  pub content : disk.honest old → disk.content new ≡ disk.content old
  pub images : disk.honest old → Within (disk.images new) (disk.images old)
  pub time : disk.honest old → Passes disk.moment disk.images_since disk.images old new
  pub lasts : Lasts disk old new
