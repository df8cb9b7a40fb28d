-- The operations of sessions, and what desks allow them.
use Rattle.std.specs.Prelude.{◌==◌, ◌+◌, ◌*◌, ◌-◌, ◌/◌, ◌<◌, ◌≤◌, ℕ, List, [], ◌∷◌, cond, max, min}
use Rattle.std.specs.List.{sum_by}
use Rattle.command_core.specs.declared.command.Op.{Op}
use Rattle.command_core.specs.Commands.{CommandValue}
use Rattle.clients.specs.declared.footprint.TheConstants.{SESSION_BYTES}
use Rattle.clients.specs.Footprints.{footprint}
use Rattle.broker_state.specs.Steps.{is_opening}
use Rattle.broker_state.specs.States.{State}
use Rattle.engine_core.specs.declared.hub.TheConstants.{HELD_BYTES}

-- the session of the command with this number: an Open's session has the number of the command
abbrev pub session_of : ℕ → CommandValue → ℕ
session_of number c = cond (is_opening c.op) number c.session

-- the operations of the session n, of commands with numbers from `number` on
abbrev pub operations_of : ℕ → ℕ → List CommandValue → List Op
operations_of n number [] = []
operations_of n number (c ∷ commands) = cond (n == session_of number c) (c.op ∷ operations_of n (number + 1) commands) (operations_of n (number + 1) commands)

-- what the open sessions of a desk take together by the operations of each
abbrev pub bytes_of_desk : (ℕ → ℕ) → (ℕ → List Op) → State → ℕ → ℕ
bytes_of_desk desk_of operations s desk = sum_by (λ e. cond (desk_of e.0 == desk) (footprint (operations e.0)) 0) s.sessions

-- There are that many desks. The open sessions of each keep together within `limit` bytes.
pub record DesksKeepWithin (desks limit : ℕ) (operations : ℕ → List Op) (s : State) : Type 0 where
  pub desk_of : ℕ → ℕ
  pub few : (n : ℕ) → desk_of n < desks
  pub within : (desk : ℕ) → bytes_of_desk desk_of operations s desk ≤ limit

-- The limit of each desk: an equal share of `SESSION_BYTES` for each client, or of what an area has over `HELD_BYTES` if that is less; but no
-- less than `SESSION_BYTES`.
abbrev pub limit_of : (desks most_clients area : ℕ) → ℕ
limit_of desks most_clients area = max (min (most_clients * SESSION_BYTES) (area - HELD_BYTES) / desks) SESSION_BYTES
