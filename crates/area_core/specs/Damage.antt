-- What is no journal, and which byte of a damaged one a fault names.
use Rattle.std.specs.Prelude.{◌≡◌, ◌≢◌, ◌⊎◌, ◌<◌, ◌≤◌, ◌+◌, ◌*◌, ◌^◌, ℕ, List, [], ◌∷◌, ◌++◌, length, take, drop, codes, Result, Ok, Err}
use Rattle.std.specs.Int.{w64, to_be_bytes}
use Rattle.std.specs.List.{AllByRecursion}
use Rattle.command_core.specs.Commands.{CommandValue}
use Rattle.command_core.specs.Spellings.{Spells}
use Rattle.command_core.specs.declared.decoding.DecodeFault.{DecodeFault}
use Rattle.command_core.specs.declared.decoding.DecodeFault.TheVariants as decoding
use Rattle.disk_core.specs.Faults.{IsOneMore}
use Rattle.area_core.specs.declared.area.Area.{Area}
use Rattle.area_core.specs.declared.faults.ReadFault.{ReadFault}
use Rattle.area_core.specs.declared.faults.ReadFault.TheVariants.{NotAJournal, Damaged, Device, UnknownVersion, TooSmall, Memory}
use Rattle.area_core.specs.declared.version.Version.{Version}
use Rattle.area_core.specs.Areas.{HasRecord, highest, records}
use Rattle.area_core.specs.Journals.{AreDigits, is_odd, start, IsJournal}

-- the disk has fewer than 32 bytes, or another name
abbrev pub IsNoJournal : List ℕ → Type 0
IsNoJournal content = (length content < 32) ⊎ (take 6 content ≢ codes "STOMPJ")

-- it has the name, but with the digits of no version
pub record IsOtherVersion (content : List ℕ) : Type 0 where
  pub long : 32 ≤ length content
  pub named : take 6 content ≡ codes "STOMPJ"
  pub version : AreDigits (take 2 (drop 6 content)) → ⊥

-- It has name and version, but its areas are too short, or the disk is shorter than both. Eight bytes spell many numbers; here and below,
-- the one that fits eight bytes is meant.
pub record IsTooSmall (content : List ℕ) : Type 0 where
  pub long : 32 ≤ length content
  pub named : take 6 content ≡ codes "STOMPJ"
  pub version : AreDigits (take 2 (drop 6 content))
  pub size : ℕ
  pub told : take 8 (drop 8 content) ≡ to_be_bytes w64 size
  pub word : size < 2 ^ 64
  pub small : (size < 4096) ⊎ (length content < 32 + 2 * size)

-- The word at that place is the first of an area of `size` bytes. Its highest byte gives no version, or its seven others give a snapshot
-- that doesn't fit into the area with the gate after it.
pub record IsBadWord (size : ℕ) (content : List ℕ) (place : ℕ) : Type 0 where
  pub high : ℕ
  pub count : ℕ
  pub told : take 8 (drop place content) ≡ to_be_bytes w64 (high * 2 ^ 56 + count)
  pub byte : high < 256
  pub seven : count < 2 ^ 56
  pub bad : ((version : Version) → high ≢ highest version) ⊎ (size < count + 9)

-- the word that the live area begins with is bad in that way
pub record HasBadWord (content : List ℕ) (place : ℕ) : Type 0 where
  pub size : ℕ
  pub selector : ℕ
  pub journal : IsJournal size selector content
  pub at : place ≡ start size (is_odd selector)
  pub bad : IsBadWord size content place

-- the byte at that place
abbrev pub HasByte : ℕ → ℕ → List ℕ → Type 0
HasByte place byte content = take 1 (drop place content) ≡ byte ∷ []

-- the block's length there is 0, or the block doesn't fit into the area with the gate after it
pub record HasBadCount (area : Area) (content : List ℕ) (place : ℕ) : Type 0 where
  pub count : ℕ
  pub told : take 8 (drop place content) ≡ to_be_bytes w64 count
  pub word : count < 2 ^ 64
  pub bad : (count ≡ 0) ⊎ (area.size < area.gate + 10 + count)

-- behind the area's gate there is no room for any block, or none for a block of the length that stands there
pub record IsBadLength (area : Area) (content : List ℕ) (place : ℕ) : Type 0 where
  pub at : place ≡ start area.size (is_odd area.selector) + area.gate + 1
  pub bad : (area.size < area.gate + 10) ⊎ HasBadCount area content place

-- these bytes begin with a record of `size` bytes, and its command joins those before it
pub record IsRecordRead (bytes : List ℕ) (size : ℕ) (before now : List CommandValue) : Type 0 where
  pub command : CommandValue
  pub within : size ≤ length bytes
  pub spelled : Spells (take size bytes) command
  pub added : now ≡ before ++ command ∷ []

-- These bytes are whole records up to an offset, and no record begins the rest.
pub record IsNoRecordAt (bytes : List ℕ) (offset : ℕ) : Type 0 where
  pub good : List CommandValue
  pub rest : List ℕ
  pub whole : bytes ≡ records good ++ rest
  pub each : AllByRecursion HasRecord good
  pub at : offset ≡ length (records good)
  pub some : rest ≢ []
  pub none : (c : CommandValue) (n : ℕ) → Spells (take n rest) c → ⊥

-- behind the area's gate stands a block, and at that place in it, something that is no record
pub record IsBadRecord (area : Area) (content : List ℕ) (place : ℕ) : Type 0 where
  pub count : ℕ
  pub told : take 8 (drop (start area.size (is_odd area.selector) + area.gate + 1) content) ≡ to_be_bytes w64 count
  pub fits : area.gate + 10 + count ≤ area.size
  pub offset : ℕ
  pub bad : IsNoRecordAt (take count (drop (start area.size (is_odd area.selector) + area.gate + 9) content)) offset
  pub at : place ≡ start area.size (is_odd area.selector) + area.gate + 9 + offset

-- The area's gate is open, and the damage behind it is at that place.
pub record IsDamagedAt (area : Area) (content : List ℕ) (place : ℕ) : Type 0 where
  pub open_gate : HasByte (start area.size (is_odd area.selector) + area.gate) 1 content
  pub bad : IsBadLength area content place ⊎ IsBadRecord area content place

-- Which fault a refusal reports.

-- the disk failed just if that is the answer
abbrev pub IsReadCaused : {T : Type 0} → ℕ → ℕ → Result T ReadFault → Type 0
IsReadCaused before now (Ok _) = now ≡ before
IsReadCaused before now (Err Device) = IsOneMore before now
IsReadCaused before now (Err _) = now ≡ before

-- the fault says nothing of the content: the disk failed, or memory was refused
abbrev pub IsOfDevice : ReadFault → Type 0
IsOfDevice Device = Unit {0}
IsOfDevice (Memory _) = Unit {0}
IsOfDevice _ = ⊥

-- what the fault says of the header is true; no memory is taken for it
abbrev pub IsHeaderTold : ReadFault → List ℕ → Type 0
IsHeaderTold NotAJournal content = IsNoJournal content
IsHeaderTold UnknownVersion content = IsOtherVersion content
IsHeaderTold TooSmall content = IsTooSmall content
IsHeaderTold (Damaged place) content = ⊥
IsHeaderTold Device content = Unit {0}
IsHeaderTold (Memory _) content = ⊥

-- what the fault says of the header, and of the version and the length of the snapshot, is true
abbrev pub IsFrontTold : ReadFault → List ℕ → Type 0
IsFrontTold (Damaged place) content = HasBadWord content place
IsFrontTold (Memory _) content = Unit {0}
IsFrontTold fault content = IsHeaderTold fault content

-- the fault if no record that begins at that place was read
abbrev pub told_of : DecodeFault → ℕ → ReadFault
told_of decoding.NoSpelling at = Damaged at
told_of (decoding.Memory refused) at = Memory refused

-- what the fault says of these bytes, the first of which is at that place, is true
abbrev pub IsRecordTold : ReadFault → ℕ → List ℕ → Type 0
IsRecordTold (Damaged at) place bytes = (offset : ℕ) × (at ≡ place + offset) × IsNoRecordAt bytes offset
IsRecordTold Device place bytes = ⊥
IsRecordTold fault place bytes = IsOfDevice fault

-- what the fault says of the word at that place is true
abbrev pub IsWordTold : ReadFault → ℕ → ℕ → List ℕ → Type 0
IsWordTold (Damaged told) place size content = (told ≡ place) × IsBadWord size content place
IsWordTold Device place size content = Unit {0}
IsWordTold fault place size content = ⊥

-- what the fault says of the length behind the area's gate is true
abbrev pub IsLengthTold : ReadFault → Area → List ℕ → Type 0
IsLengthTold (Damaged place) area content = IsBadLength area content place
IsLengthTold fault area content = IsOfDevice fault

-- what the fault says of the block behind the area's gate is true
abbrev pub IsBlockTold : ReadFault → Area → List ℕ → Type 0
IsBlockTold (Damaged place) area content = IsDamagedAt area content place
IsBlockTold fault area content = IsOfDevice fault
