-- What was read of a journal so far.
use Rattle.std.specs.Prelude.{ℕ, List}
use Rattle.command_core.specs.Commands.{CommandValue}
use Rattle.broker_core.specs.States.{State}
use Rattle.snapshot_core.specs.Snapshots.{Spells}
use Rattle.area_core.specs.declared.area.Area.{Area}
use Rattle.area_core.specs.declared.version.Version.{Version}
use Rattle.area_core.specs.Held.{IsAt}
use Rattle.area_core.specs.Reading.{IsPast}
use Rattle.recover_core.specs.Opens.{IsFolded}
use Rattle.recover_core.specs.Standing.{joined, rule_of}

-- this snapshot spells a state, and the commands of these blocks were carried out from there, by the rule of that version
pub record Follows (version : Version) (snapshot : List ℕ) (blocks : List (List CommandValue)) (s : State) : Type 0 where
  pub first : State
  pub spells : Spells snapshot first
  pub folded : IsFolded (rule_of version) first (joined blocks) s

-- the live area begins with these, and the next gate is where the held area has it
pub record HasWalked (area : Area) (s : State) (image : List ℕ) : Type 0 where
  pub snapshot : List ℕ
  pub blocks : List (List CommandValue)
  pub past : IsPast area snapshot blocks image
  pub follows : Follows area.version snapshot blocks s

-- the live area is these, up to its first closed gate
pub record HasEnded (area : Area) (s : State) (image : List ℕ) : Type 0 where
  pub snapshot : List ℕ
  pub blocks : List (List CommandValue)
  pub at : IsAt area snapshot blocks image
  pub follows : Follows area.version snapshot blocks s
