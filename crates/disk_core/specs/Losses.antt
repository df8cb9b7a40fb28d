-- What may have become of an open file.
use Rattle.std.specs.Prelude.{◌≡◌, ◌≢◌, ◌≤◌, ◌<◌, ◌⊎◌, ℕ, Bool, true, false, List, length, min, replicate, Option, Some, None, Result, Ok, Err, pos, ◌↔◌, take}
use Rattle.std.specs.IoError.{error_kind, raw_os_error}
use Rattle.std.specs.declared.io.Error.{Error}
use Rattle.std.specs.declared.io.ErrorKind.{ErrorKind}
use Rattle.std.specs.declared.io.ErrorKind.TheVariants as kinds
use Rattle.disk_core.specs.Images.{patched}
use Rattle.disk_core.specs.declared.loss.DeviceCause.{DeviceCause}
use Rattle.disk_core.specs.declared.loss.DeviceCause.TheVariants.{Removed, Replaced, Cut, Overwritten, NoSpace, InputOutput, Refused}
use Rattle.disk_core.specs.declared.loss.Found.{Found}
use Rattle.disk_core.specs.declared.loss.Known.{Known}
use Rattle.disk_core.specs.declared.loss.Node.{Node}
use Rattle.disk_core.specs.declared.loss.TheConstants.{HEADER_BYTES}

-- the path names the file, and all of its bytes are there, with the header and the bytes of the last write
pub record IsWhole (found : Found) (known : Known) : Type 0 where
  pub named : found.named ≡ Some known.node
  pub size : known.size ≤ found.size
  pub header : found.header ≡ known.header
  pub last : found.last ≡ known.last

-- The file is whole, or this is the first loss: the path names nothing, or another file; or it names the file, which is shorter; or which has
-- its size, and another header or other bytes where those of the last write were.
abbrev pub IsLoss : Found → Known → Option DeviceCause → Type 0
IsLoss found known None = IsWhole found known
IsLoss found known (Some Removed) = found.named ≡ None
IsLoss found known (Some Replaced) = (node : Node) × (found.named ≡ Some node) × (node ≢ known.node)
IsLoss found known (Some Cut) = (found.named ≡ Some known.node) × (found.size < known.size)
IsLoss found known (Some Overwritten) = (found.named ≡ Some known.node) × (known.size ≤ found.size) × ((found.header ≢ known.header) ⊎ (found.last ≢ known.last))
IsLoss found known (Some _) = ⊥

-- the same of a call's outcome
abbrev pub IsJudged : {T : Type 0} → Found → Known → Result T DeviceCause → Type 0
IsJudged found known (Ok _) = IsLoss found known None
IsJudged found known (Err cause) = IsLoss found known (Some cause)

-- what is found if nothing has happened
abbrev pub expected : Known → Found
expected known = record { named = Some known.node; size = known.size; header = known.header; last = known.last }

-- a header after these bytes were written from an offset of the file on
abbrev pub header_after : ℕ → List ℕ → List ℕ → List ℕ
header_after at bytes header = take HEADER_BYTES (patched at bytes header)

-- what is known once these bytes were written from an offset on; of the last write, as many bytes as a header has, and zeros for those missing
abbrev pub noted : ℕ → List ℕ → Known → Known
noted at bytes known = record known { header = header_after at bytes known.header; last = header_after 0 bytes (replicate HEADER_BYTES 0); last_at = at; last_count = min (length bytes) HEADER_BYTES }

-- what an error of the system stands for, by its kind, and by whether its number is that of `EIO`
abbrev pub cause_by : ErrorKind → Bool → DeviceCause
cause_by kinds.StorageFull _ = NoSpace
cause_by kinds.QuotaExceeded _ = NoSpace
cause_by kinds.UnexpectedEof _ = Cut
cause_by _ true = InputOutput
cause_by _ false = Refused

pub record IsCauseOf (error : Error) (cause : DeviceCause) : Type 0 where
  pub is_eio : Bool
  pub number : (is_eio ≡ true) ↔ (raw_os_error error ≡ Some (pos 5))
  pub is : cause ≡ cause_by (error_kind error) is_eio

-- the cause of the first failure, after one more call
abbrev pub first_cause : {T : Type 0} → Option DeviceCause → Result T DeviceCause → Option DeviceCause
first_cause (Some cause) _ = Some cause
first_cause None (Ok _) = None
first_cause None (Err cause) = Some cause
