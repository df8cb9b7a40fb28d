-- What has been read of a disk so far.
use Rattle.std.specs.Prelude.{ℕ, List, ◌+◌, ◌≤◌, length}
use Rattle.command_core.specs.Commands.{CommandValue}
use Rattle.area_core.specs.declared.area.Area.{Area}
use Rattle.area_core.specs.Held.{IsAt}
use Rattle.area_core.specs.Reading.{IsPast}
use Rattle.broker_core.specs.States.{State}
use Rattle.snapshot_core.specs.Snapshots.{Spells, snapshot_of}
use Rattle.world_core.specs.Readings.{IsRead, Reading}

-- these bytes are a journal with areas of this length
pub record IsReadable (size : ℕ) (content : List ℕ) : Type 0 where
  pub reading : Reading
  pub is_read : IsRead size content reading

-- the live area begins with some blocks, and the next gate is where the held area has it
pub record HasPassed (area : Area) (content : List ℕ) : Type 0 where
  pub snapshot : List ℕ
  pub blocks : List (List CommandValue)
  pub past : IsPast area snapshot blocks content

-- these are all the blocks, and that gate is closed
pub record HasEnded (area : Area) (content : List ℕ) : Type 0 where
  pub snapshot : List ℕ
  pub blocks : List (List CommandValue)
  pub at : IsAt area snapshot blocks content

-- the state has no snapshot that fits into an area of `size` bytes with the gate after it
abbrev pub HasNoSnapshot : ℕ → State → Type 0
HasNoSnapshot size s = Spells (snapshot_of s) s → length (snapshot_of s) + 9 ≤ size → ⊥
