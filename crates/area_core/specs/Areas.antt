-- How an area stands on the disk: a snapshot, and blocks of records behind open gates.
use Rattle.std.specs.Prelude.{◌≡◌, ◌≢◌, ◌<◌, ◌≤◌, ◌+◌, ◌*◌, ◌^◌, ℕ, List, [], ◌∷◌, ◌++◌, length, map, replicate}
use Rattle.std.specs.Int.{w64, to_be_bytes}
use Rattle.std.specs.List.{AllByRecursion, flat_map}
use Rattle.command_core.specs.Commands.{CommandValue}
use Rattle.command_core.specs.Entries.{EntryValue}
use Rattle.command_core.specs.Spellings.{Spells, record_of}
use Rattle.area_core.specs.declared.version.Version.{Version}
use Rattle.area_core.specs.declared.version.Version.TheVariants.{One, Two}

-- the command has a record
abbrev pub HasRecord : CommandValue → Type 0
HasRecord c = Spells (record_of c) c

-- the commands of a batch
abbrev pub commands : {B : Type 0} → List (EntryValue B) → List CommandValue
commands batch = map (λ entry. entry.command) batch

-- the records of commands, one after another
abbrev pub records : List CommandValue → List ℕ
records cs = flat_map record_of cs

-- how many bytes, in eight, and the bytes
abbrev pub counted : List ℕ → List ℕ
counted bytes = to_be_bytes w64 (length bytes) ++ bytes

-- the same, and a gate, which is closed
abbrev pub closed : List ℕ → List ℕ
closed bytes = counted bytes ++ 0 ∷ []

-- the number that stands for a version
abbrev pub number : Version → ℕ
number One = 1
number Two = 2

-- the byte that an area of that version begins with
abbrev pub highest : Version → ℕ
highest One = 0
highest Two = 2

-- the word that an area begins with: that byte, and in the seven others how many bytes the snapshot has
abbrev pub word_of : Version → ℕ → ℕ
word_of version count = highest version * 2 ^ 56 + count

-- this word, in eight bytes, and the snapshot
abbrev pub headed : Version → List ℕ → List ℕ
headed version snapshot = to_be_bytes w64 (word_of version (length snapshot)) ++ snapshot

-- the same, and a gate, which is closed: an area with no block
abbrev pub closed_snapshot : Version → List ℕ → List ℕ
closed_snapshot version snapshot = headed version snapshot ++ 0 ∷ []

-- an open gate, and the block behind it
abbrev pub block : List CommandValue → List ℕ
block cs = 1 ∷ counted (records cs)

-- an area up to its first closed gate
abbrev pub front : Version → List ℕ → List (List CommandValue) → List ℕ
front version snapshot blocks = headed version snapshot ++ flat_map block blocks

-- what may stand in a block
pub record IsBlock (cs : List CommandValue) : Type 0 where
  pub some : cs ≢ []
  pub each : AllByRecursion HasRecord cs

-- These bytes begin with an area of at most `size` bytes: its version, this snapshot, these blocks behind open gates, and the first closed
-- gate. The snapshot's length fits into seven bytes. What lies behind that gate is not read.
pub record IsArea (version : Version) (size : ℕ) (snapshot : List ℕ) (blocks : List (List CommandValue)) (bytes : List ℕ) : Type 0 where
  pub gate : ℕ
  pub rest : List ℕ
  pub whole : bytes ≡ front version snapshot blocks ++ gate ∷ rest
  pub shut : gate ≢ 1
  pub fits : length (front version snapshot blocks) + 1 ≤ size
  pub seven : length snapshot < 2 ^ 56
  pub each : AllByRecursion IsBlock blocks

-- the snapshot that a new journal begins with: 32 zero bytes
abbrev pub first_snapshot : List ℕ
first_snapshot = replicate 32 0
