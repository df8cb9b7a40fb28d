use Rattle.std.specs.Prelude.{List, [], ◌∷◌, ℕ, Option, Some, codes}
use Rattle.frame_core.specs.declared.frame.Frame.{Frame}
use Rattle.frame_core.specs.declared.frame.Verb.{Verb}
use Rattle.frame_core.specs.declared.frame.Verb.TheVariants as verbs
use Rattle.command_core.specs.Replies.{error_frame}
use Rattle.command_core.specs.declared.command.End.TheVariants as ends
use Rattle.command_core.specs.declared.command.Op.{Op}
use Rattle.command_core.specs.declared.command.Op.TheVariants as ops
use Rattle.command_core.specs.declared.fault.Fault.{Fault}
use Rattle.command_core.specs.declared.command.Member.{Member}
use Rattle.command_core.specs.declared.command.Member.TheVariants as members
use Rattle.session_core.specs.declared.session.Act.{Act}
use Rattle.session_core.specs.declared.session.Act.TheVariants as acts
use Rattle.session_core.specs.declared.session.CloseCode.TheVariants as closes
use Rattle.session_core.specs.declared.session.Phase.{Phase}
use Rattle.session_core.specs.declared.session.Phase.TheVariants as phases

-- a CONNECT that offers these versions
abbrev pub connect : List ℕ → Frame
connect versions = record { verb = verbs.Connect; headers = (codes "accept-version", versions) ∷ []; body = [] }

-- a SEND of `hi` with the receipt `r`
abbrev pub send : List ℕ → Frame
send to = record { verb = verbs.Send; headers = (codes "destination", to) ∷ (codes "receipt", codes "r") ∷ []; body = codes "hi" }

-- the command that it asks for
abbrev pub sent : List ℕ → Op
sent to = ops.Send (record { destination = to; headers = []; body = codes "hi" })

-- a frame that speaks of the transaction `t`, with the receipt `r`
abbrev pub with_transaction : Verb → Frame
with_transaction verb = record { verb = verb; headers = (codes "transaction", codes "t") ∷ (codes "receipt", codes "r") ∷ []; body = [] }

-- an ACK of the delivery 7 in the transaction `t`, with the receipt `r`
abbrev pub ack : Frame
ack = record { verb = verbs.Ack; headers = (codes "id", codes "7") ∷ (codes "transaction", codes "t") ∷ (codes "receipt", codes "r") ∷ []; body = [] }

-- a DISCONNECT with the receipt `r`
abbrev pub disconnect : Frame
disconnect = record { verb = verbs.Disconnect; headers = (codes "receipt", codes "r") ∷ []; body = [] }

-- the receipt `r`
abbrev pub receipt : Option (List ℕ)
receipt = Some (codes "r")

-- the broker is asked for an operation, with that receipt
abbrev pub asks : Op → List Act
asks op = acts.Do op receipt ∷ []

-- an ERROR is told at once, and the connection is closed
abbrev pub denied : Fault → Option (List ℕ) → List Act
denied fault id = acts.Direct (error_frame fault id) ∷ acts.Close closes.ProtocolError ∷ []

-- the broker is asked to end the session by a fault, and the connection is closed
abbrev pub dropped : Fault → List Act
dropped fault = acts.Do (ops.End (ends.Bad fault)) receipt ∷ acts.Close closes.ProtocolError ∷ []

-- it is asked to end the session with a good-bye
abbrev pub left : List Act
left = acts.Do (ops.End ends.Bye) receipt ∷ acts.Close closes.NormalClosure ∷ []

-- two members
abbrev pub two : List Member
two = members.Ack 3 ∷ members.Nack 5 ∷ []

-- a session with no transaction open
abbrev pub opened : Phase
opened = phases.Open []

-- a session with the transaction `t` open, of these members
abbrev pub open_t : List Member → Phase
open_t joined = phases.Open ((codes "t", joined) ∷ [])
