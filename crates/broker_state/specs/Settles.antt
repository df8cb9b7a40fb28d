use Rattle.std.specs.Prelude.{◌≡◌, ◌++◌, List, ℕ, take}
use Rattle.command_core.specs.Outs.{OutValue}
use Rattle.broker_state.specs.HandOut.{can_take, settled}
use Rattle.broker_state.specs.Parts.{NonePass}
use Rattle.broker_state.specs.States.{State}

-- What is left to hand out, after some deliveries, is what was to be handed out at first. None that waits before that
-- place can be served.
pub record SettlesSo (first : State) (before : List OutValue) (s : State) (outs : List OutValue) (at : ℕ) : Type 0 where
  pub state : (settled first).state ≡ (settled s).state
  pub all : before ++ (settled first).outs ≡ outs ++ (settled s).outs
  pub passed : NonePass (can_take s) (take at s.subscriptions)
