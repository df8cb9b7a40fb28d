-- What one connection asks of the broker.
use Rattle.std.specs.Prelude.{◌≡◌, ◌≢◌, ◌&&◌, ℕ, List, Bool, true, false, Option, Some, None}
use Rattle.std.specs.Option.{is_some}
use Rattle.command_core.specs.Commands.{CommandValue}
use Rattle.command_core.specs.declared.command.Op.{Op}
use Rattle.command_core.specs.declared.command.Op.TheVariants as ops
use Rattle.command_core.specs.declared.command.End.TheVariants.{Bye}
use Rattle.clients.specs.declared.progress.Progress.{Progress}
use Rattle.clients.specs.declared.progress.Progress.TheVariants.{New, Open, Ended, Gone}
use Rattle.clients.specs.declared.progress.Role.{Role}
use Rattle.clients.specs.declared.progress.Role.TheVariants.{Opens, Talks, Ends}

-- whether an operation opens its session, goes on with it, or ends it
abbrev pub role_of : Op → Role
role_of (ops.Open client_id) = Opens
role_of (ops.End how) = Ends
role_of _ = Talks

-- the number of a conversation's session, once it has one
abbrev pub number_in : Progress → Option ℕ
number_in New = None
number_in (Open number) = Some number
number_in (Ended number) = Some number
number_in Gone = None

-- the command may be the next of the conversation
abbrev pub IsNext : Progress → CommandValue → Type 0
IsNext New c = role_of c.op ≡ Opens
IsNext (Open number) c = (c.session ≡ number) × (role_of c.op ≢ Opens)
IsNext (Ended number) c = ⊥
IsNext Gone c = ⊥

-- the session's number as a command of that role has it: 0 for an Open, which has none yet, and if no session is open
abbrev pub session_of : Progress → Role → ℕ
session_of progress Opens = 0
session_of (Open number) role = number
session_of progress role = 0

-- the command of an operation and the receipt that it asks for, of the session that is open
abbrev pub asked : Progress → Op → Option (List ℕ) → CommandValue
asked progress op receipt = record { session = session_of progress (role_of op); op = op; receipt = receipt }

-- a command of the conversation's session in that role may be the next
abbrev pub MayBe : Progress → Role → Type 0
MayBe New role = role ≡ Opens
MayBe (Open number) role = role ≢ Opens
MayBe (Ended number) role = ⊥
MayBe Gone role = ⊥

-- no session is open: none was opened, or nothing more of it is appended
abbrev pub IsDone : Progress → Type 0
IsDone New = Unit {0}
IsDone (Open number) = ⊥
IsDone (Ended number) = Unit {0}
IsDone Gone = Unit {0}

-- nothing more is appended
abbrev pub IsFinished : Progress → Type 0
IsFinished New = ⊥
IsFinished (Open number) = ⊥
IsFinished (Ended number) = Unit {0}
IsFinished Gone = Unit {0}

-- the progress once nothing more is appended
abbrev pub over : Progress → Progress
over New = Gone
over (Open number) = Ended number
over (Ended number) = Ended number
over Gone = Gone

-- how far it has come with a command of that role and ticket
abbrev pub after : Progress → Role → ℕ → Progress
after progress Opens ticket = Open ticket
after progress Talks ticket = progress
after progress Ends ticket = over progress

-- the client says that its session ends
abbrev pub is_farewell : Op → Bool
is_farewell (ops.End Bye) = true
is_farewell _ = false

-- its RECEIPT is the last frame
abbrev pub is_last : CommandValue → Bool
is_last c = is_farewell c.op && is_some c.receipt
