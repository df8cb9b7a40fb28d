-- How a journal stands on a disk: a header that names the live one of two areas.
use Rattle.std.specs.Prelude.{◌≡◌, ◌==◌, ◌<◌, ◌≤◌, ◌+◌, ◌*◌, ◌%◌, ◌^◌, ℕ, Bool, true, false, List, ◌++◌, length, replicate, take, drop, slice_index, codes}
use Rattle.std.specs.Int.{w64, to_be_bytes}
use Rattle.command_core.specs.Commands.{CommandValue}
use Rattle.area_core.specs.declared.version.Version.{Version}
use Rattle.area_core.specs.declared.version.Version.TheVariants.{One, Two}
use Rattle.area_core.specs.Areas.{IsArea}

-- how a version is spelled in a journal's name
abbrev pub digits : Version → List ℕ
digits One = codes "01"
digits Two = codes "02"

-- these are the digits of a version
abbrev pub AreDigits : List ℕ → Type 0
AreDigits bytes = (version : Version) × (bytes ≡ digits version)

-- the header's first 16 bytes: the name, with a version's digits, and the length of an area
abbrev pub header : Version → ℕ → List ℕ
header version size = codes "STOMPJ" ++ (digits version ++ to_be_bytes w64 size)

-- The 32 bytes before the areas of a new journal: the name with the second version's digits, the length of an area, the selector 0, and
-- fifteen zeros. The zeros are never read.
abbrev pub new_header : ℕ → List ℕ
new_header size = header Two size ++ replicate 16 0

-- an odd selector names the second area
abbrev pub is_odd : ℕ → Bool
is_odd selector = selector % 2 == 1

-- the one that it does not name
abbrev pub other : Bool → Bool
other true = false
other false = true

-- where an area begins
abbrev pub start : ℕ → Bool → ℕ
start size false = 32
start size true = 32 + size

-- The image is a journal with areas of this length and this selector. The version in its name is that of the build that formatted it. How
-- an area is read follows from the area's own first byte.
pub record IsJournal (size selector : ℕ) (image : List ℕ) : Type 0 where
  pub named : Version
  pub begins : take 16 image ≡ header named size
  pub selects : slice_index image 16 ≡ selector
  pub least : 4096 ≤ size
  pub most : 32 + 2 * size < 2 ^ 64
  pub fits : 32 + 2 * size ≤ length image

-- the journal's live area has this version, this snapshot and these blocks
pub record Reads (version : Version) (size selector : ℕ) (snapshot : List ℕ) (blocks : List (List CommandValue)) (image : List ℕ) : Type 0 where
  pub journal : IsJournal size selector image
  pub area : IsArea version size snapshot blocks (drop (start size (is_odd selector)) image)
