-- How large an area has to be.
use Rattle.std.specs.Prelude.{◌≡◌, ◌≤◌, ◌+◌, ℕ, List, [], ◌∷◌, length}
use Rattle.std.specs.List.{sum_by}
use Rattle.command_core.specs.declared.command.Op.{Op}
use Rattle.command_core.specs.declared.command.Op.TheVariants.{Commit}
use Rattle.command_core.specs.Commands.{CommandValue}
use Rattle.command_core.specs.Sizes.{member_size}
use Rattle.broker_state.specs.declared.nack_rule.NackRule.{NackRule}
use Rattle.broker_state.specs.Sound.{IsSound}
use Rattle.broker_state.specs.States.{State}
use Rattle.broker_state.specs.Steps.{state_after_by}
use Rattle.snapshot_core.specs.Snapshots.{Spells}
use Rattle.area_core.specs.declared.version.Version.TheVariants.{Two}
use Rattle.area_core.specs.Areas.{HasRecord, front}
use Rattle.engine_core.specs.Desks.{DesksKeepWithin, operations_of}

-- a transaction has at most 262,144 bytes
abbrev pub IsSmall : Op → Type 0
IsSmall (Commit members) = sum_by member_size members ≤ 262144
IsSmall _ = Unit {0}

-- An area of so many bytes has room for this snapshot and, after it, for a block of any one command.
abbrev pub HasRoom : ℕ → List ℕ → Type 0
HasRoom size snapshot = (c : CommandValue) → HasRecord c → IsSmall c.op → length (front Two snapshot ((c ∷ []) ∷ [])) + 1 ≤ size

-- Commands were carried out from a sound state with no session. If the sessions of each desk keep within `limit`, an area of `size` bytes has
-- room for a snapshot of the state that they leave.
abbrev pub DesksFit : (desks limit size : ℕ) → Type 0
DesksFit desks limit size =
    (rule : NackRule) (s : State) (commands : List CommandValue) (snapshot : List ℕ)
    → IsSound s → s.sessions ≡ [] → Spells snapshot (state_after_by rule s commands)
    → DesksKeepWithin desks limit (λ n. operations_of n s.count commands) (state_after_by rule s commands)
    → HasRoom size snapshot
