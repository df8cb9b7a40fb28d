-- How often a message stands in a state.
use Rattle.std.specs.Prelude.{◌≡◌, ◌≤◌, ◌&&◌, ℕ, count_by}
use Rattle.line_core.specs.declared.message.Message.{Message}
use Rattle.line_core.specs.declared.message.MessageNumber.{MessageNumber}
use Rattle.line_core.specs.Lines.{is_same}
use Rattle.command_core.specs.Destinations.{is_queue}
use Rattle.command_core.specs.Sendings.{SendingValue}
use Rattle.broker_state.specs.Operations.{message_of}
use Rattle.broker_state.specs.States.{State, standing, weight_of}

-- how many messages to queues have that number, of all that stand in lines and unacknowledged
abbrev pub copies_in_queues : MessageNumber → State → ℕ
copies_in_queues number s = count_by (λ m. is_queue m.sending.destination && is_same number m.number) (standing s)

-- no message to a queue stands in two places
abbrev pub AreSingle : State → Type 0
AreSingle s = (number : MessageNumber) → copies_in_queues number s ≤ 1

-- a message that the next command sends weighs nothing
abbrev pub LeavesNewOut : (Message → ℕ) → State → Type 0
LeavesNewOut weight s = (place : ℕ) (sending : SendingValue) → weight (message_of s.count place sending) ≡ 0

-- the state weighs no more than the one before it
abbrev pub AddsNothing : (Message → ℕ) → State → State → Type 0
AddsNothing weight old new = weight_of weight new ≤ weight_of weight old
