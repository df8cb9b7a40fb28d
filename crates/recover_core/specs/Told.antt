-- Which fault is reported, and what is then true of the content.
use Rattle.std.specs.Prelude.{◌≡◌, ◌⊎◌, ◌<◌, ◌≤◌, ◌+◌, ◌*◌, ◌^◌, ℕ, List, [], length, Result, Ok, Err}
use Rattle.disk_core.specs.Faults.{IsOneMore}
use Rattle.command_core.specs.Commands.{CommandValue}
use Rattle.broker_core.specs.Operations.{restarted}
use Rattle.broker_core.specs.States.{State}
use Rattle.snapshot_core.specs.Snapshots.{Spells}
use Rattle.area_core.specs.declared.area.Area.{Area}
use Rattle.area_core.specs.declared.faults.AreaFault.{AreaFault}
use Rattle.area_core.specs.declared.faults.AreaFault.TheVariants as areas
use Rattle.area_core.specs.declared.faults.ReadFault.{ReadFault}
use Rattle.area_core.specs.declared.faults.ReadFault.TheVariants.{Damaged, Device}
use Rattle.area_core.specs.declared.faults.ReadFault.TheVariants as reads
use Rattle.area_core.specs.Damage.{IsDamagedAt, IsFrontTold, HasBadWord}
use Rattle.area_core.specs.Journals.{IsJournal, is_odd, start}
use Rattle.area_core.specs.Reading.{IsPast}
use Rattle.recover_core.specs.declared.faults.OpenFault.{OpenFault}
use Rattle.recover_core.specs.declared.faults.OpenFault.TheVariants.{Read, CountTooLarge, Area as Areas}
use Rattle.recover_core.specs.Standing.{Stands}

-- the live area's snapshot, which begins at that place, spells no state
pub record IsBadSnapshot (content : List ℕ) (place : ℕ) : Type 0 where
  pub area : Area
  pub snapshot : List ℕ
  pub past : IsPast area snapshot [] content
  pub at : place ≡ start area.size (is_odd area.selector) + 8
  pub none : (s : State) → Spells snapshot s → ⊥

-- the live area's snapshot spells a state, and after some of its blocks there is damage at that place
pub record IsBadBlock (content : List ℕ) (place : ℕ) : Type 0 where
  pub area : Area
  pub snapshot : List ℕ
  pub first : State
  pub spells : Spells snapshot first
  pub blocks : List (List CommandValue)
  pub past : IsPast area snapshot blocks content
  pub damaged : IsDamagedAt area content place

-- what the fault says of the header and the live area is true
abbrev pub IsStateTold : ReadFault → List ℕ → Type 0
IsStateTold (Damaged place) content = HasBadWord content place ⊎ IsBadSnapshot content place ⊎ IsBadBlock content place
IsStateTold fault content = IsFrontTold fault content

-- the content stands for a state after more than 2^61 commands
pub record IsTooLarge (content : List ℕ) : Type 0 where
  pub state : State
  pub stands : Stands content state
  pub large : 2 ^ 61 < state.count

-- the snapshot of the state after the restart doesn't fit into an area of this length with the gate after it
pub record IsLong (size : ℕ) (s : State) : Type 0 where
  pub snapshot : List ℕ
  pub spells : Spells snapshot (restarted s)
  pub long : size < length snapshot + 9

-- The content stands for a state whose snapshot after the restart doesn't fit into one of its areas. Its count is not too large; that would
-- be reported first.
pub record IsTooLong (content : List ℕ) : Type 0 where
  pub size : ℕ
  pub selector : ℕ
  pub journal : IsJournal size selector content
  pub state : State
  pub stands : Stands content state
  pub small : state.count ≤ 2 ^ 61
  pub long : IsLong size state

-- A disk of `bytes` bytes has room for two areas of some length, at least 4,096. The snapshot of a state after the restart doesn't fit into
-- one, and the state's count is not too large.
pub record IsTooLongFor (bytes : ℕ) : Type 0 where
  pub size : ℕ
  pub least : 4096 ≤ size
  pub two : 32 + 2 * size ≤ bytes
  pub state : State
  pub small : state.count ≤ 2 ^ 61
  pub long : IsLong size state

-- what the fault says of writing is true
abbrev pub IsAreaTold : AreaFault → List ℕ → Type 0
IsAreaTold areas.Full content = IsTooLong content
IsAreaTold areas.Broken content = ⊥
IsAreaTold _ content = Unit {0}

-- what the fault says of writing that snapshot is true
abbrev pub IsWriteTold : OpenFault → ℕ → State → Type 0
IsWriteTold (Areas areas.Full) size s = IsLong size s
IsWriteTold (Areas areas.Device) size s = Unit {0}
IsWriteTold (Areas (areas.Memory _)) size s = Unit {0}
IsWriteTold _ size s = ⊥

-- what the fault says of a journal that is not opened is true
abbrev pub IsOpenTold : OpenFault → List ℕ → Type 0
IsOpenTold (Read fault) content = IsStateTold fault content
IsOpenTold CountTooLarge content = IsTooLarge content
IsOpenTold (Areas fault) content = IsAreaTold fault content

-- the disk failed just if the fault says so
abbrev pub IsCausedBy : OpenFault → ℕ → ℕ → Type 0
IsCausedBy (Read Device) before now = IsOneMore before now
IsCausedBy (Areas areas.Device) before now = IsOneMore before now
IsCausedBy _ before now = now ≡ before

-- the same for an answer
abbrev pub IsOpenCaused : {T : Type 0} → ℕ → ℕ → Result T OpenFault → Type 0
IsOpenCaused before now (Ok _) = now ≡ before
IsOpenCaused before now (Err fault) = IsCausedBy fault before now

-- what the fault says of these bytes, the first of which is at that place, is true
abbrev pub IsSnapshotTold : OpenFault → List ℕ → ℕ → Type 0
IsSnapshotTold (Read (Damaged at)) bytes place = (at ≡ place) × ((s : State) → Spells bytes s → ⊥)
IsSnapshotTold (Read (reads.Memory _)) bytes place = Unit {0}
IsSnapshotTold _ bytes place = ⊥

-- what the fault says of blocks is true
abbrev pub IsWalkTold : OpenFault → List ℕ → Type 0
IsWalkTold (Read (Damaged place)) content = IsBadBlock content place
IsWalkTold (Read Device) content = Unit {0}
IsWalkTold CountTooLarge content = IsTooLarge content
IsWalkTold (Areas (areas.Memory _)) content = Unit {0}
IsWalkTold (Read (reads.Memory _)) content = Unit {0}
IsWalkTold _ content = ⊥

-- what the fault says of the header and the live area is true, and it says nothing else
abbrev pub IsStateRefused : OpenFault → List ℕ → Type 0
IsStateRefused (Read fault) content = IsStateTold fault content
IsStateRefused CountTooLarge content = IsTooLarge content
IsStateRefused (Areas (areas.Memory _)) content = Unit {0}
IsStateRefused _ content = ⊥

-- the fault comes from reading: from what was read, or because memory was refused
abbrev pub IsOfReading : OpenFault → Type 0
IsOfReading (Areas (areas.Memory _)) = Unit {0}
IsOfReading (Areas _) = ⊥
IsOfReading _ = Unit {0}

-- if what is left doesn't fit, this holds
abbrev pub IfFull : OpenFault → Type 0 → Type 0
IfFull (Areas areas.Full) P = P
IfFull _ P = Unit {0}

-- if the fault comes from what was read, before anything is written, this holds
abbrev pub IfRead : OpenFault → Type 0 → Type 0
IfRead (Read _) P = P
IfRead CountTooLarge P = P
IfRead (Areas areas.Full) P = P
IfRead (Areas _) P = Unit {0}
