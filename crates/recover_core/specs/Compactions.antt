-- What compaction keeps.
use Rattle.std.specs.Prelude.{◌⊎◌, ◌<◌, ◌+◌, ℕ, List, [], ◌∷◌, length}
use Rattle.command_core.specs.Commands.{CommandValue}
use Rattle.disk_core.specs.Images.{patched}
use Rattle.broker_core.specs.States.{State}
use Rattle.snapshot_core.specs.Snapshots.{Spells}
use Rattle.area_core.specs.declared.area.Area.{Area}
use Rattle.area_core.specs.Held.{IsAt}
use Rattle.area_core.specs.Puts.{Each, IsTorn}
use Rattle.area_core.specs.Switches.{KeepsRest}
use Rattle.recover_core.specs.Opens.{HoldsOnlySnapshot}
use Rattle.recover_core.specs.Standing.{Leads, Stands}

-- no snapshot of the state fits into an area of `size` bytes, with its length before it and a gate after it
abbrev pub HasNoRoomFor : ℕ → State → Type 0
HasNoRoomFor size s = (spelling : List ℕ) → Spells spelling s → size < length spelling + 9

-- both areas stand for the state, so the image does too, whatever the selector is
abbrev pub StandsTwice : State → List ℕ → Type 0
StandsTwice s c = (selector : ℕ) → Stands (patched 16 (selector ∷ []) c) s

-- the live area has a snapshot of this state and no block after it, and `used` of its bytes are used
abbrev pub HoldsItAlone : ℕ → ℕ → State → List ℕ → Type 0
HoldsItAlone size used s c = ∥ HoldsOnlySnapshot size used s c ∥₁

-- This is one of these images with any bytes in a range, the area that is not live; or both areas stand for the state.
abbrev pub IsRestOrTwice : ℕ → ℕ → (List ℕ → Type 0) → State → List ℕ → Type 0
IsRestOrTwice at size images s c = ∥ IsTorn at size images c ⊎ StandsTwice s c ∥₁

-- if each image had an area that leads to the state, this one stands for it
abbrev pub KeepsState : (List ℕ → Type 0) → Area → State → List ℕ → Type 0
KeepsState images area s c = (snapshot : List ℕ) (blocks : List (List CommandValue)) → Each images (IsAt area snapshot blocks) → Leads area.version snapshot blocks s → Stands c s

-- and it has another area that is not live, or both stand for it
abbrev pub KeepsTwo : (List ℕ → Type 0) → Area → State → List ℕ → Type 0
KeepsTwo images area s c = (snapshot : List ℕ) (blocks : List (List CommandValue)) → Each images (IsAt area snapshot blocks) → Leads area.version snapshot blocks s → KeepsRest images area c ⊎ StandsTwice s c

-- while a state's snapshot is written and its area made the live one, an image stands for it, by one area or by both
pub record IsWritingState (images : List ℕ → Type 0) (area : Area) (s : State) (c : List ℕ) : Type 0 where
  pub stands : KeepsState images area s c
  pub two : KeepsTwo images area s c
