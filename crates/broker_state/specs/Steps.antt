use Rattle.std.specs.Prelude.{◌+◌, ◌||◌, List, [], ◌∷◌, ◌++◌, ℕ, Bool, true, false, Option, Some, None, Result, Ok, Err, map, if◌then◌else◌}
use Rattle.std.specs.List.{fold}
use Rattle.frame_core.specs.declared.frame.Frame.{Frame}
use Rattle.command_core.specs.declared.command.End.{End}
use Rattle.command_core.specs.declared.command.End.TheVariants.{Bye, Lost, Bad}
use Rattle.command_core.specs.declared.command.Op.{Op}
use Rattle.command_core.specs.declared.command.Op.TheVariants.{Open, End as ends}
use Rattle.command_core.specs.declared.fault.Fault.{Fault}
use Rattle.command_core.specs.Commands.{CommandValue}
use Rattle.command_core.specs.Outs.{OutValue}
use Rattle.command_core.specs.Replies.{connected, receipt_frame, error_frame}
use Rattle.broker_state.specs.declared.nack_rule.NackRule.{NackRule}
use Rattle.broker_state.specs.declared.nack_rule.NackRule.TheVariants.{Drops, Keeps}
use Rattle.broker_state.specs.Executing.{HasFewMembers, executed}
use Rattle.broker_state.specs.States.{State, is_open}
use Rattle.broker_state.specs.HandOut.{Settling, settled}
use Rattle.broker_state.specs.Operations.{ended, opened, restarted}

-- a refused operation acts as the end of its session
abbrev pub accepted_or_ended : State → ℕ → Result State Fault → State
accepted_or_ended s session (Ok t) = t
accepted_or_ended s session (Err fault) = ended s session

-- what an operation does before anything is handed out: nothing if its session isn't open
abbrev pub done : NackRule → State → ℕ → Op → State
done rule s session (Open client_id) = opened s client_id
done rule s session op = if is_open s session then accepted_or_ended s session (executed rule s session op) else s

-- whether an operation opens a session
abbrev pub is_opening : Op → Bool
is_opening (Open _) = true
is_opening _ = false

-- what an operation leads to with what is then handed out; an operation of a session that isn't open leads to nothing
abbrev pub led_to : NackRule → State → ℕ → Op → Settling
led_to rule s session op = if is_opening op || is_open s session then settled (done rule s session op) else record { state = s; outs = [] }

-- what a command does: what its operation leads to, and one more command is counted
abbrev pub step_by : NackRule → State → CommandValue → State
step_by rule s c = record (led_to rule s c.session c.op).state { count = s.count + 1 }

-- by the rule of NACK that holds now, and by the one of journals of version 1
abbrev pub step : State → CommandValue → State
step = step_by Keeps

abbrev pub step_v1 : State → CommandValue → State
step_v1 = step_by Drops

-- RECEIPT if one was asked for
abbrev pub receipts : Option (List ℕ) → List Frame
receipts None = []
receipts (Some id) = receipt_frame id ∷ []

-- what the end of a session is answered with: RECEIPT if one was asked for, nothing if the connection is lost, or ERROR
-- (STOMP 1.2, "DISCONNECT" and "ERROR")
abbrev pub farewell : End → Option (List ℕ) → List Frame
farewell Bye receipt = receipts receipt
farewell Lost receipt = []
farewell (Bad fault) receipt = error_frame fault receipt ∷ []

-- what an operation is answered with: ERROR if it was refused, and else RECEIPT if one was asked for
abbrev pub verdict : Result State Fault → Option (List ℕ) → List Frame
verdict (Ok _) receipt = receipts receipt
verdict (Err fault) receipt = error_frame fault receipt ∷ []

-- the frames that answer an operation of an open session
abbrev pub replies : NackRule → State → ℕ → Op → Option (List ℕ) → List Frame
replies rule s session (ends end) receipt = farewell end receipt
replies rule s session op receipt = verdict (executed rule s session op) receipt

-- frames to a session, as outputs of the command of that number
abbrev pub outs_to : ℕ → ℕ → List Frame → List OutValue
outs_to number session frames = map (λ frame. record { number = number; session = session; frame = frame }) frames

-- what answers an operation itself
abbrev pub answers : NackRule → State → ℕ → Option (List ℕ) → Op → List OutValue
answers rule s session receipt (Open _) = outs_to s.count s.count (connected s.count ∷ [])
answers rule s session receipt op = if is_open s session then outs_to s.count session (replies rule s session op receipt) else []

-- the outputs of a command: the MESSAGEs that are handed out, and then what answers it
abbrev pub outs_by : NackRule → State → CommandValue → List OutValue
outs_by rule s c = (led_to rule s c.session c.op).outs ++ answers rule s c.session c.receipt c.op

abbrev pub outs : State → CommandValue → List OutValue
outs = outs_by Keeps

abbrev pub outs_v1 : State → CommandValue → List OutValue
outs_v1 = outs_by Drops

-- the state after commands in turn
abbrev pub state_after_by : NackRule → State → List CommandValue → State
state_after_by rule s commands = fold (step_by rule) s commands

abbrev pub state_after : State → List CommandValue → State
state_after = state_after_by Keeps

abbrev pub state_after_v1 : State → List CommandValue → State
state_after_v1 = state_after_by Drops

-- the outputs of commands in turn
abbrev pub outs_of_by : NackRule → State → List CommandValue → List OutValue
outs_of_by rule s [] = []
outs_of_by rule s (c ∷ commands) = outs_by rule s c ++ outs_of_by rule (step_by rule s c) commands

abbrev pub outs_of : State → List CommandValue → List OutValue
outs_of = outs_of_by Keeps

-- What befalls a broker: a command by one rule of NACK or the other, or a restart. A journal that was written by the old
-- rule goes on by the new one.
pub data Event : Type 0 where
  a_command : NackRule → CommandValue → Event
  a_restart : Event

-- an event is one that can befall it: a transaction has at most 64 members
abbrev pub MayBefall : Event → Type 0
MayBefall (a_command rule c) = HasFewMembers c.op
MayBefall a_restart = Unit {0}

-- the state after one of them
abbrev pub state_after_one : State → Event → State
state_after_one s (a_command rule c) = step_by rule s c
state_after_one s a_restart = restarted s

-- the state after commands and restarts in turn
abbrev pub state_after_all : State → List Event → State
state_after_all s events = fold state_after_one s events
