-- How a connection at a seat keeps within what it may have, and when acts of it are cut off.
use Rattle.std.specs.Prelude.{◌≡◌, ◌⊎◌, ◌<◌, ◌≤◌, ◌∷◌, ◌++◌, ℕ, List, [], Option, Some, None, map}
use Rattle.command_core.specs.declared.command.Op.{Op}
use Rattle.claim_core.specs.Counts.{Pair}
use Rattle.session_core.specs.declared.session.Act.{Act}
use Rattle.session_core.specs.declared.session.Act.TheVariants.{Do}
use Rattle.clients.specs.Connections.{ConnectionValue}
use Rattle.clients.specs.Footprints.{IsWithin, footprint, standing}
use Rattle.clients.specs.Stages.{Executes}
use Rattle.clients.specs.declared.footprint.Cut.{Cut}
use Rattle.clients.specs.declared.footprint.Cut.TheVariants as cuts
use Rattle.clients.specs.Effects.{Effect, commands_of}
use Rattle.clients.specs.Boxes.{BoxEntry}

-- what commands ask for
abbrev pub ops_of : List Pair → List Op
ops_of said = map (λ (p : Pair). p.1.op) said

-- what an entry that waits for room asks for
abbrev pub waiting_of : Option BoxEntry → List Op
waiting_of None = []
waiting_of (Some entry) = entry.command.op ∷ []

-- The session keeps within the bytes of its desk after each of the commands that were appended, and after what waits. What stands is what
-- these leave standing, for as long as more may be appended. No less is counted than what was appended leaves standing.
pub record Spends (effects : List Effect) (c : ConnectionValue) (waiting : List Op) : Type 0 where
  pub within : IsWithin c.footprint.limit (ops_of (commands_of effects) ++ waiting)
  pub stands : Executes c.stage → c.footprint.parts ≡ standing (ops_of (commands_of effects) ++ waiting)
  pub counted : footprint (ops_of (commands_of effects)) ≤ c.footprint.counted

-- The acts are cut off from a command on: after all commands that were appended, it would have had its session pass what it might have. All
-- acts before it are done.
pub record Cuts (room : ℕ) (asked cut done : List Act) (said : List Pair) : Type 0 where
  pub op : Op
  pub receipt : Option (List ℕ)
  pub others : List Act
  pub first : cut ≡ Do op receipt ∷ others
  pub more : List Act
  pub before : done ≡ asked ++ more
  pub passes : room < footprint (ops_of said ++ op ∷ [])

-- why acts are cut off: from such a command on, or from anywhere on since the server needed the memory
abbrev pub IsCutFor : Cut → List Act → List Act → List Act → List Pair → Type 0
IsCutFor cuts.No asked cut done said = ⊥
IsCutFor (cuts.Full room) asked cut done said = Cuts room asked cut done said
IsCutFor cuts.Evicted asked cut done said = Unit {0}

abbrev pub IsCut : Cut → List Act → List Act → List Act → List Pair → Type 0
IsCut why asked cut done said = (cut ≡ []) ⊎ IsCutFor why asked cut done said

abbrev pub IsEvicted : Cut → Type 0
IsEvicted cuts.No = ⊥
IsEvicted (cuts.Full room) = ⊥
IsEvicted cuts.Evicted = Unit {0}

-- what it may have stays, and it is not evicted
pub record KeepsRoom (old new : ConnectionValue) : Type 0 where
  pub room : new.footprint.room ≡ old.footprint.room
  pub limit : new.footprint.limit ≡ old.footprint.limit
  pub evicted : IsEvicted new.footprint.cut → IsEvicted old.footprint.cut
