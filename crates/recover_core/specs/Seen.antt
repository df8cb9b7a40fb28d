-- What a journal shows of itself.
use Rattle.std.specs.Prelude.{◌≡◌, ◌+◌, ◌%◌, ℕ, List, length}
use Rattle.command_core.specs.Commands.{CommandValue}
use Rattle.broker_core.specs.States.{State, held_bytes, held_messages}
use Rattle.area_core.specs.declared.version.Version.{Version}
use Rattle.area_core.specs.Areas.{front, number}
use Rattle.area_core.specs.Journals.{Reads}
use Rattle.recover_core.specs.declared.seen.Seen.{Seen}
use Rattle.recover_core.specs.Standing.{Leads}

-- The version of its live area, which area that is, and how much of it is used, the first closed gate included. Then the count of the state
-- that the journal stands for, and what that state holds.
pub record IsSeen (seen : Seen) (content : List ℕ) : Type 0 where
  pub version : Version
  pub told : seen.version ≡ number version
  pub size : ℕ
  pub selector : ℕ
  pub snapshot : List ℕ
  pub blocks : List (List CommandValue)
  pub reads : Reads version size selector snapshot blocks content
  pub area : seen.area ≡ selector % 2
  pub used : seen.used ≡ length (front version snapshot blocks) + 1
  pub state : State
  pub leads : Leads version snapshot blocks state
  pub count : seen.count ≡ state.count
  pub messages : seen.held.messages ≡ held_messages state
  pub bytes : seen.held.bytes ≡ held_bytes state
