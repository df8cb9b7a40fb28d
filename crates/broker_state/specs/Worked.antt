use Rattle.std.specs.Prelude.{List, [], ◌∷◌, ℕ, None, codes}
use Rattle.command_core.specs.declared.command.AckMode.TheVariants.{Client}
use Rattle.command_core.specs.Sendings.{SendingValue}
use Rattle.command_core.specs.Commands.{CommandValue}
use Rattle.command_core.specs.declared.command.Op.{Op}
use Rattle.command_core.specs.declared.command.Op.TheVariants.{Open, Send, Subscribe, Nack, Commit}
use Rattle.command_core.specs.declared.command.Member.TheVariants as members
use Rattle.line_core.specs.declared.message.Message.{Message}
use Rattle.broker_state.specs.Operations.{message_of}

-- a command of the first session, with no receipt
abbrev pub asks : Op → CommandValue
asks op = record { session = 0; op = op; receipt = None }

-- `hi` with a header
abbrev pub hi : List ℕ → SendingValue
hi to = record { destination = to; headers = (codes "kind", codes "late") ∷ []; body = codes "hi" }

abbrev pub listens : List ℕ → CommandValue
listens to = asks (Subscribe (codes "s") to Client None)

-- a session listens to a queue and is sent two messages
abbrev pub two_sent : List CommandValue
two_sent =
    asks (Open None) ∷ listens (codes "/queue/q") ∷ asks (Send (hi (codes "/queue/q"))) ∷ asks (Send (hi (codes "/queue/q"))) ∷ []

-- it refuses both, by one NACK and by two of a transaction
abbrev pub refuses_both : CommandValue
refuses_both = asks (Nack 1)

abbrev pub refuses_each : CommandValue
refuses_each = asks (Commit (members.Nack 0 ∷ members.Nack 1 ∷ []))

-- a message in the queue of refused ones, by command 4
abbrev pub dead : ℕ → Message
dead place = message_of 4 place (hi (codes "/queue/dead"))
