-- What the steps of reading a journal show.
use Rattle.std.specs.Prelude.{◌≡◌, ◌<◌, ◌≤◌, ◌+◌, ◌*◌, ◌^◌, ℕ, List, Bool, true, false, length}
use Rattle.disk_core.specs.declared.disk.Disk.{Ghosts}
use Rattle.broker_core.specs.States.{BrokerValue, State}
use Rattle.area_core.specs.declared.area.Area.{Area}
use Rattle.recover_core.specs.declared.faults.OpenFault.{OpenFault}
use Rattle.recover_core.specs.Told.{IsOfReading, IsWalkTold}
use Rattle.recover_core.specs.Walks.{HasEnded, HasWalked}

-- After what was walked, one more block was walked, or the next gate is closed. The answer says which.
pub record Walks (old new : Area) (before after : State) (content : List ℕ) (more : Bool) : Type 0 where
  pub on : more ≡ true → HasWalked old before content → HasWalked new after content
  pub end : more ≡ false → HasWalked old before content → HasEnded new after content

-- the gate of a block lies after the gate before, and the broker is whole
pub record Steps (old new : Area) (broker : BrokerValue) (more : Bool) : Type 0 where
  pub grows : more ≡ true → old.gate < new.gate
  pub whole : broker.broken ≡ false

-- What the fault says of the blocks after what was walked is true, and the fault comes from reading.
pub record RefusesWalk {D : Type 0} (disk : Ghosts D) (old : D) (area : Area) (s : State) (fault : OpenFault) : Type 0 where
  pub told : disk.honest old → HasWalked area s (disk.content old) → IsWalkTold fault (disk.content old)
  pub kind : IsOfReading fault

-- the broker is whole, and its count is not too large
pub record IsCounted (broker : BrokerValue) : Type 0 where
  pub small : broker.state.count ≤ 2 ^ 61
  pub whole : broker.broken ≡ false

-- The area is whole, and the disk has both; neither has fewer than 4,096 bytes. The broker is whole, and its count is not too
-- large.
pub record IsLoaded (area : Area) (broker : BrokerValue) (content : List ℕ) : Type 0 where
  pub whole : area.broken ≡ false
  pub least : 4096 ≤ area.size
  pub room : 32 + 2 * area.size ≤ length content
  pub counted : IsCounted broker
