-- What is read of a disk.
use Rattle.std.specs.Prelude.{◌≡◌, ℕ, List, length}
use Rattle.command_core.specs.Commands.{CommandValue}
use Rattle.broker_core.specs.States.{State}
use Rattle.area_core.specs.declared.version.Version.{Version}
use Rattle.area_core.specs.Areas.{front}
use Rattle.area_core.specs.Journals.{Reads}
use Rattle.recover_core.specs.Standing.{Leads}

-- the version of the live area, where its first closed gate is, counted from the area's first byte, and the state that the disk stands for
pub record Reading : Type 0 where
  pub version : Version
  pub gate : ℕ
  pub state : State

-- These bytes are a journal with areas of this length, and this is read of it.
pub record IsRead (size : ℕ) (content : List ℕ) (r : Reading) : Type 0 where
  pub selector : ℕ
  pub snapshot : List ℕ
  pub blocks : List (List CommandValue)
  pub reads : Reads r.version size selector snapshot blocks content
  pub gate : r.gate ≡ length (front r.version snapshot blocks)
  pub leads : Leads r.version snapshot blocks r.state
