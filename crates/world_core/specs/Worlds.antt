-- A world as a value: a history of commands, what flusher and sessions know of it, and the disk that it is stored on.
use Rattle.std.specs.Prelude.{ℕ, ◌+◌, ◌-◌, Bool, List, length, take, drop, Option}
use Rattle.command_core.specs.Commands.{CommandValue}
use Rattle.broker_core.specs.States.{State}
use Rattle.broker_core.specs.Steps.{state_after}
use Rattle.world_core.specs.declared.seat.Seat.{Seat}
use Rattle.world_core.specs.declared.parts.LastCall.{LastCall}
use Rattle.world_core.specs.declared.parts.Period.{Period}

-- A disk: the bytes of each of its two areas, what a read gives, and what each byte that was written since the last
-- sync held then.
pub record DiskValue : Type 0 where
  pub size : ℕ
  pub content : List ℕ
  pub held : List (Option ℕ)

-- A life begins when a journal is opened, and ends when it is opened again.
pub record WorldValue : Type 0 where
  -- the number of this life's first command, and the state that it began with
  pub base : ℕ
  pub opening : State
  -- the claimed commands, by number from the base on, and which of them are ready
  pub history : List CommandValue
  pub ready : List Bool
  -- the commands under these numbers are taken by the flusher; known to be stored; and known to sessions
  pub taken : ℕ
  pub stored : ℕ
  pub mark : ℕ
  pub seats : List Seat
  pub stopped : Bool
  -- the released numbers of this life, and of the lives before it
  pub released : List ℕ
  pub earlier : List ℕ
  pub phase : Period
  pub place : LastCall
  pub disk : DiskValue

-- the number of the next command
abbrev pub claimed : WorldValue → ℕ
claimed w = w.base + length w.history

-- the state after the commands of a history whose numbers are under n
abbrev pub state_under : ℕ → State → List CommandValue → ℕ → State
state_under base opening history n = state_after opening (take (n - base) history)

-- the commands of a history from one number on, and under another
abbrev pub between : ℕ → List CommandValue → ℕ → ℕ → List CommandValue
between base history low high = take (high - low) (drop (low - base) history)
