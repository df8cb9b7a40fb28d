use Rattle.std.specs.Prelude.{◌≡◌, List, ℕ, Result, Ok, Err}
use Rattle.command_core.specs.declared.fault.Fault.{Fault}
use Rattle.line_core.specs.declared.message.Message.{Message}
use Rattle.broker_state.specs.declared.subscription.Subscription.{Subscription}
use Rattle.broker_state.specs.Names.{Name}
use Rattle.broker_state.specs.HandOut.{settled}
use Rattle.broker_state.specs.Operations.{fanned_out}
use Rattle.broker_state.specs.States.{State}
use Rattle.broker_state.specs.Waiting.{Shared}
use Rattle.broker_tables.specs.Answers.{Answered, with_outs}
use Rattle.broker_tables.specs.Tables.{TablesValue}

-- The lines and the subscriptions of any state with those durable names, once the message has gone into its lines.
abbrev pub IsFannedOut : Message → List (Name × List ℕ) → Shared → List Subscription → Shared → List Subscription → Type 0
IsFannedOut m durables shared subscriptions shared_after subscriptions_after =
    (s : State) → fanned_out (record s { durables = durables; shared = shared; subscriptions = subscriptions }) m
    ≡ record s { durables = durables; shared = shared_after; subscriptions = subscriptions_after }

-- An operation that gives this is accepted, and then all that can be handed out is. Nothing is due then.
pub record IsAccepted (given : Result State Fault) (earlier : Answered) (new : TablesValue) (all : Answered) : Type 0 where
  pub before : State
  pub accepted : given ≡ Ok before
  pub state : new.state ≡ (settled before).state
  pub outs : all ≡ with_outs (settled before).outs earlier
  pub due : new.due ≡ 0

-- the same, or it is refused, and nothing changes
abbrev pub IsCarriedOut : Result State Fault → TablesValue → Answered → Result (Unit {0}) Fault → TablesValue → Answered → Type 0
IsCarriedOut given old earlier (Ok _) new all = IsAccepted given earlier new all
IsCarriedOut given old earlier (Err fault) new all = (given ≡ Err fault) × (new ≡ old) × (all ≡ earlier)
