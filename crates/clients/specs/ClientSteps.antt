-- How a client goes on at its seat.
use Rattle.std.specs.Prelude.{◌≡◌, ◌++◌, ℕ, List, [], None, Option, Some, cond}
use Rattle.frame_core.specs.declared.frame.Frame.{Frame}
use Rattle.claim_core.specs.Appends.{Appends}
use Rattle.claim_core.specs.Seats.{SessionSeatValue}
use Rattle.claim_core.specs.declared.limits.TheConstants.{WINDOW}
use Rattle.command_core.specs.Commands.{CommandValue}
use Rattle.command_core.specs.declared.command.Op.{Op}
use Rattle.session_core.specs.declared.session.Act.TheVariants.{Direct}
use Rattle.clients.specs.Concluding.{Concludes}
use Rattle.clients.specs.Connections.{ConnectionValue, connection_of}
use Rattle.clients.specs.Progress.{IsNext, after, is_last, role_of}
use Rattle.clients.specs.Stages.{Executes}
use Rattle.clients.specs.TurnAnswers.{Grows, IsSeen, Leaves}
use Rattle.clients.specs.Continues.{Continues}
use Rattle.clients.specs.Effects.{Effect, commands_of, told_of}
use Rattle.clients.specs.Halting.{FindsEnd, HasHalted}
use Rattle.clients.specs.Histories.{DoesUndone, Heeds, LivesOn, Taken, Undone}
use Rattle.clients.specs.Clients.{Served}
use Rattle.clients.specs.SessionBytes.{KeepsRoom}
use Rattle.clients.specs.declared.turned.Outcome.{Outcome}
use Rattle.clients.specs.declared.progress.Progress.{Progress}
use Rattle.clients.specs.Boxes.{BoxEntry, HasBox}
use Rattle.clients.specs.declared.client.Client.{Client}

-- A command was appended with that ticket, as the next of a conversation. Its RECEIPT may be the last frame.
pub record SaysNext (command : CommandValue) (was : Progress) (had : Option ℕ) (old : SessionSeatValue) (is : Progress) (has : Option ℕ) (new : SessionSeatValue) (ticket : ℕ) : Type 0 where
  pub appends : Appends WINDOW old new ticket command
  pub next : IsNext was command
  pub progress : is ≡ after was (role_of command.op) ticket
  pub last : has ≡ cond (is_last command) (Some ticket) had

-- no entry waits, and this one has the next command of the conversation, with the box that it opens
pub record MayAppend {B : Type 0} (client : Client B) (entry : BoxEntry) : Type 0 where
  pub nothing : client.waiting ≡ None
  pub next : IsNext client.progress entry.command
  pub boxed : HasBox entry client.opening

-- One act took this step: the seat has a command more only if that is said. If the window was full, an entry waits over a mark that the seat
-- has seen.
pub record TakesStep (step : Outcome) (old new : SessionSeatValue) (waiting : Option BoxEntry) : Type 0 where
  pub grows : Grows step old new
  pub leaves : Leaves step waiting
  pub seen : IsSeen step new

-- no command was appended, and none was counted
abbrev pub IsUnsaid : ConnectionValue → ConnectionValue → Type 0
IsUnsaid old new = (new.progress ≡ old.progress) × (new.footprint ≡ old.footprint)

-- what was undone is done, beside which so much waits, if the client appended yet
abbrev pub CarriesOut : {B : Type 0} → Undone → List Op → Client B → SessionSeatValue → Client B → SessionSeatValue → Type 0
CarriesOut undone counted was old is new = Executes was.stage → DoesUndone undone counted (connection_of was) old (connection_of is) is.waiting new

-- These effects were done at a client, of what its bytes ask for next. Its seat got the commands among them, and nothing
-- else, which go on with its own conversation. Its link was sent the frames among them, beside its own session's outputs. What it may have
-- stays. Its conversation ends by its commands, or by an ERROR that its client is sent. It is stopped only if its seat has found that the
-- ring takes nothing more.
pub record GoesOn {B L : Type 0} (sent : L → Option (List (List ℕ))) (received : L → Option (List ℕ)) (was : Client B) (old : SessionSeatValue) (from : L) (is : Client B) (new : SessionSeatValue) (to : L) : Type 0 where
  pub effects : List Effect
  pub added : new.own ≡ old.own ++ commands_of effects
  pub continues : Continues was.progress old is.progress new
  pub served : Served sent (told_of effects) was from is to
  pub heeds : Heeds received was from is to effects
  pub keeps : KeepsRoom (connection_of was) (connection_of is)
  pub concludes : Concludes sent (connection_of was) from (connection_of is) to (commands_of effects)
  pub halts : (HasHalted was.stage → FindsEnd old) → HasHalted is.stage → FindsEnd new

-- what became of a frame that the client's bytes ask for
pub record TellsIt {B L : Type 0} (sent : L → Option (List (List ℕ))) (frame : Frame) (was : Client B) (from : L) (is : Client B) (to : L) : Type 0 where
  pub effects : List Effect
  pub none_said : commands_of effects ≡ []
  pub served : Served sent (told_of effects) was from is to
  pub keeps : KeepsRoom (connection_of was) (connection_of is)
  pub concludes : Executes was.stage → Concludes sent (connection_of was) from (connection_of is) to []
  pub halts : Executes was.stage → HasHalted is.stage → HasHalted was.stage
  pub lives : Executes was.stage → LivesOn (Taken (Direct frame)) [] (connection_of was) (connection_of is) is.waiting effects
