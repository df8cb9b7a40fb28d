-- What opening a journal keeps.
use Rattle.std.specs.Prelude.{◌≡◌, ◌<◌, ◌^◌, ◌⊎◌, ◌+◌, ℕ, List, [], length, take}
use Rattle.disk_core.specs.declared.disk.Disk.{Ghosts}
use Rattle.disk_core.specs.Images.{Within}
use Rattle.disk_core.specs.Moments.{LeavesOnly}
use Rattle.command_core.specs.Commands.{CommandValue}
use Rattle.broker_core.specs.Operations.{restarted}
use Rattle.broker_core.specs.States.{State}
use Rattle.broker_core.specs.Steps.{state_after_by}
use Rattle.broker_state.specs.declared.nack_rule.NackRule.{NackRule}
use Rattle.area_core.specs.declared.area.Area.{Area}
use Rattle.area_core.specs.declared.version.Version.TheVariants.{Two}
use Rattle.area_core.specs.Held.{IsAt}
use Rattle.area_core.specs.Journals.{Reads}
use Rattle.area_core.specs.Puts.{Each}
use Rattle.snapshot_core.specs.Snapshots.{Spells}
use Rattle.recover_core.specs.Sound.{IsSound}
use Rattle.recover_core.specs.Standing.{Leads, Stands, StandFor, StandsForEither}

-- what was read of an image: where its live area is, and the state that it stands for
pub record HasRead (area : Area) (s : State) (image : List ℕ) : Type 0 where
  pub snapshot : List ℕ
  pub blocks : List (List CommandValue)
  pub at : IsAt area snapshot blocks image
  pub leads : Leads area.version snapshot blocks s

-- the image stands for some state
pub record StandsForSome (image : List ℕ) : Type 0 where
  pub state : State
  pub stands : Stands image state

-- this is the restart of a state that the content stands for
pub record IsRestartOf (content : List ℕ) (now : State) : Type 0 where
  pub before : State
  pub stood : Stands content before
  pub is : now ≡ restarted before

-- nothing was written: the content stays, and a stop at any moment leaves nothing that it might not have left before
pub record IsUnwritten {D : Type 0} (disk : Ghosts D) (old new : D) : Type 0 where
  pub content : disk.content new ≡ disk.content old
  pub images : Within (disk.images new) (disk.images old)
  pub leaves : LeavesOnly disk.moment disk.images_since old new (disk.images old)

-- The image stands for a state. One of these images stands for a state with the same restart.
pub record RestartsAs (images : List ℕ → Type 0) (c : List ℕ) : Type 0 where
  pub image : List ℕ
  pub among : images image
  pub before : State
  pub was : Stands image before
  pub now : State
  pub stands : Stands c now
  pub same : restarted now ≡ restarted before

-- if each of these images stands for a state, so does that one, and it restarts as one of them
abbrev pub KeepsRestart : (List ℕ → Type 0) → List ℕ → Type 0
KeepsRestart images c = ((d : List ℕ) → images d → ∥ StandsForSome d ∥₁) → ∥ RestartsAs images c ∥₁

-- if each image held this area, which led to that state, an image of now stands for the state or for its restart
abbrev pub KeepsEither : (List ℕ → Type 0) → Area → State → List ℕ → Type 0
KeepsEither images area s c =
    (snapshot : List ℕ) (blocks : List (List CommandValue)) → Each images (IsAt area snapshot blocks) → Leads area.version snapshot blocks s → StandsForEither s (restarted s) c

-- one of these images with any bytes after the name and the length of an area
abbrev pub KeepsHeader : (List ℕ → Type 0) → List ℕ → Type 0
KeepsHeader images c = (d : List ℕ) × images d × (take 16 c ≡ take 16 d)

-- The live area is of the second version, and has a snapshot of this state and no block after it. `used` of its bytes are used: eight for
-- its version and the snapshot's length, the snapshot, and a gate.
pub record HoldsOnlySnapshot (size used : ℕ) (s : State) (image : List ℕ) : Type 0 where
  pub selector : ℕ
  pub snapshot : List ℕ
  pub reads : Reads Two size selector snapshot [] image
  pub spells : Spells snapshot s
  pub is_used : used ≡ length snapshot + 9

-- each image has the area that is held now, and stands for this state, by a snapshot alone
pub record HasWritten (images : List ℕ → Type 0) (area : Area) (s : State) : Type 0 where
  pub sound : IsSound images area
  pub stands : StandFor images s
  pub holds : Each images (HoldsOnlySnapshot area.size (area.gate + 1) s)

abbrev pub HasRestarted : (List ℕ → Type 0) → Area → State → Type 0
HasRestarted images area s = HasWritten images area (restarted s)

-- the count passes 2^61 on the way, and the rest was left out
pub record IsLeftOut (rule : NackRule) (before : State) (commands : List CommandValue) (now : State) : Type 0 where
  pub now_large : 2 ^ 61 < now.count
  pub all_large : 2 ^ 61 < (state_after_by rule before commands).count

-- These commands lead to this state by that rule of NACK, or the count passes 2^61 on the way, and the rest was left out.
abbrev pub IsFolded : NackRule → State → List CommandValue → State → Type 0
IsFolded rule before commands now = (now ≡ state_after_by rule before commands) ⊎ IsLeftOut rule before commands now
