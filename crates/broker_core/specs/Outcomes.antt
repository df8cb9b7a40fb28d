use Rattle.std.specs.Prelude.{◌≡◌, ◌++◌, ℕ, Bool, List, Option, true, false, Result, Ok, Err}
use Rattle.command_core.specs.declared.command.Op.{Op}
use Rattle.command_core.specs.declared.command.Op.TheVariants.{Send}
use Rattle.command_core.specs.Outs.{OutValue}
use Rattle.broker_state.specs.declared.nack_rule.NackRule.{NackRule}
use Rattle.broker_state.specs.Executing.{executed}
use Rattle.broker_state.specs.HandOut.{Settling, settled}
use Rattle.broker_state.specs.Sound.{IsSound}
use Rattle.broker_state.specs.States.{BrokerValue, State, held_bytes, held_messages}
use Rattle.broker_state.specs.Steps.{accepted_or_ended, answers, led_to}
use Rattle.broker_tables.specs.Tables.{TablesValue}
use Rattle.broker_core.specs.declared.broker.BrokerFault.{BrokerFault}
use Rattle.broker_core.specs.declared.broker.BrokerFault.TheVariants.{Memory, Broken}

-- Whole tables are in a state that a broker can have, and broken ones hold nothing. Nothing is due.
pub record IsWholeOrEmpty (b : TablesValue) : Type 0 where
  pub whole : b.broken ≡ false → IsSound b.state
  pub messages : b.broken ≡ true → held_messages b.state ≡ 0
  pub bytes : b.broken ≡ true → held_bytes b.state ≡ 0
  pub due : b.due ≡ 0

-- Whether a broker is broken before a step or a restart, and after it: what is done leaves a whole broker whole. Refused
-- memory breaks it, and its count stays. One that is broken stays as it is.
abbrev pub IsOutcome : {X : Type 0} → BrokerValue → BrokerValue → Result X BrokerFault → Type 0
IsOutcome old new (Ok _) = (old.broken ≡ false) × (new.broken ≡ false)
IsOutcome old new (Err (Memory _)) = (old.broken ≡ false) × (new.broken ≡ true) × (new.state.count ≡ old.state.count)
IsOutcome old new (Err Broken) = (old.broken ≡ true) × (new ≡ old)

-- what an operation of an open session leads to with what is then handed out
abbrev pub led_in_session : NackRule → State → ℕ → Op → Settling
led_in_session rule s session op = settled (accepted_or_ended s session (executed rule s session op))

-- whether an operation is a SEND
abbrev pub is_send : Op → Bool
is_send (Send _) = true
is_send _ = false

-- what is handed out after an operation, and then what answers it
abbrev pub outs_of : NackRule → State → ℕ → Option (List ℕ) → Op → List OutValue
outs_of rule s session receipt op = (led_to rule s session op).outs ++ answers rule s session receipt op
