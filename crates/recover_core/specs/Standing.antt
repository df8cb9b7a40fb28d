-- What an image of the disk stands for: the state from which recovery goes on.
use Rattle.std.specs.Prelude.{◌≡◌, ◌⊎◌, ℕ, List}
use Rattle.std.specs.List.{flat_map}
use Rattle.command_core.specs.Commands.{CommandValue}
use Rattle.broker_core.specs.States.{State}
use Rattle.broker_core.specs.Steps.{state_after_by}
use Rattle.broker_state.specs.declared.nack_rule.NackRule.{NackRule}
use Rattle.broker_state.specs.declared.nack_rule.NackRule.TheVariants.{Drops, Keeps}
use Rattle.snapshot_core.specs.Snapshots.{Spells}
use Rattle.area_core.specs.declared.version.Version.{Version}
use Rattle.area_core.specs.declared.version.Version.TheVariants.{One, Two}
use Rattle.area_core.specs.Journals.{Reads}

-- the commands of blocks, in their order
abbrev pub joined : List (List CommandValue) → List CommandValue
joined blocks = flat_map (λ (b : List CommandValue). b) blocks

-- the rule of NACK by which the blocks of an area are carried out
abbrev pub rule_of : Version → NackRule
rule_of One = Drops
rule_of Two = Keeps

-- this snapshot spells a state, and the commands of these blocks lead from there to this one, by the rule of that version
pub record Leads (version : Version) (snapshot : List ℕ) (blocks : List (List CommandValue)) (s : State) : Type 0 where
  pub first : State
  pub spells : Spells snapshot first
  pub is : s ≡ state_after_by (rule_of version) first (joined blocks)

-- the live area's snapshot spells a state, and its blocks lead from there to this one, by the rule of the area's version
pub record Standing (image : List ℕ) (s : State) : Type 0 where
  pub version : Version
  pub size : ℕ
  pub selector : ℕ
  pub snapshot : List ℕ
  pub blocks : List (List CommandValue)
  pub reads : Reads version size selector snapshot blocks image
  pub leads : Leads version snapshot blocks s

-- the image stands for this state
abbrev pub Stands : List ℕ → State → Type 0
Stands image s = ∥ Standing image s ∥₁

-- the image stands for one of these two
abbrev pub StandsForEither : State → State → List ℕ → Type 0
StandsForEither s t image = ∥ Stands image s ⊎ Stands image t ∥₁

-- each of these images stands for this state
abbrev pub StandFor : (List ℕ → Type 0) → State → Type 0
StandFor images s = (c : List ℕ) → images c → Stands c s
