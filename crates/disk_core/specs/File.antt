-- What is known of a `FileDisk`.
use Rattle.std.specs.Prelude.{◌≡◌, List, ℕ, Option, codes}
use Rattle.disk_core.specs.declared.file.FileDisk.{FileDisk}
use Rattle.disk_core.specs.declared.file.OpenError.{OpenError}
use Rattle.disk_core.specs.declared.loss.DeviceCause.{DeviceCause}

-- its number of bytes
abbrev pub file_size : FileDisk → ℕ
file_size f = f.known.size

-- how many of its calls have failed
abbrev pub file_failures : FileDisk → ℕ
file_failures f = f.failures

-- the cause of the first of these
abbrev pub file_cause : FileDisk → Option DeviceCause
file_cause f = f.cause

-- it has as many bytes, and as many of its calls have failed, for the same cause
pub record IsSameFile (old new : FileDisk) : Type 0 where
  pub size : file_size new ≡ file_size old
  pub failures : file_failures new ≡ file_failures old
  pub cause : file_cause new ≡ file_cause old

-- the text for a file that was not opened
abbrev pub open_error_text : OpenError → List ℕ
open_error_text error = codes "cannot open"
