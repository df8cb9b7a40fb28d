-- What contracts see of a connection, and what its calls do.
use Rattle.std.specs.Prelude.{◌≡◌, ◌+◌, ◌∷◌, ℕ, List, [], Bool, Option, Some, None, cond, length}
use Rattle.command_core.specs.Commands.{CommandValue}
use Rattle.command_core.specs.declared.command.End.TheVariants as ends
use Rattle.command_core.specs.declared.command.Op.{Op}
use Rattle.command_core.specs.declared.command.Op.TheVariants as ops
use Rattle.frame_core.specs.declared.frame.Verb.{Verb}
use Rattle.frame_core.specs.declared.frame.Verb.TheVariants as verbs
use Rattle.session_core.specs.declared.session.Act.{Act}
use Rattle.session_core.specs.declared.session.Act.TheVariants.{Do}
use Rattle.session_core.specs.declared.session.CloseCode.{CloseCode}
use Rattle.session_core.specs.declared.session.CloseCode.TheVariants.{NormalClosure, ProtocolError}
use Rattle.session_core.specs.declared.session.Phase.TheVariants.{Failed}
use Rattle.session_core.specs.Sessions.{Hearing, Hears, fresh, held_in, is_held}
use Rattle.clients.specs.Progress.{IsNext, after, asked, over}
use Rattle.clients.specs.Stages.{given_up, lost}
use Rattle.clients.specs.Acts.{Tasks, tasks, all_of}
use Rattle.clients.specs.Weights.{weight_of_all}
use Rattle.clients.specs.Footprints.{FootprintValue, none_standing, settled}
use Rattle.clients.specs.declared.footprint.Cut.TheVariants as cuts
use Rattle.clients.specs.declared.client.Client.{Client}
use Rattle.clients.specs.declared.turned.Ended.TheVariants.{Bye, Bad}
use Rattle.clients.specs.declared.progress.Progress.{Progress}
use Rattle.clients.specs.declared.progress.Progress.TheVariants.{New, Open, Ended, Gone}
use Rattle.clients.specs.declared.progress.Role.{Role}
use Rattle.clients.specs.declared.progress.Stage.{Stage}
use Rattle.clients.specs.declared.progress.Stage.TheVariants.{Running, GivingUp, Closing, Leaving}

-- Its session of STOMP; what that asked for that is still to be done; how far its conversation with the broker has come; what stands of
-- its session in a snapshot; the number of the DISCONNECT whose RECEIPT is the last frame; and what is to be done with it.
pub record ConnectionValue : Type 0 where
  pub session : Hearing
  pub acts : Tasks
  pub progress : Progress
  pub footprint : FootprintValue
  pub last : Option ℕ
  pub stage : Stage

-- that of a client
abbrev pub connection_of : {B : Type 0} → Client B → ConnectionValue
connection_of c = record { session = c.session; acts = c.acts; progress = c.progress; footprint = c.footprint; last = c.last_receipt; stage = c.stage }

-- one whose conversation has come so far, with that DISCONNECT, and with which that is to be done
abbrev pub standing : ConnectionValue → Progress → Option ℕ → Stage → ConnectionValue
standing c progress last stage = record c { progress = progress; last = last; stage = stage }

-- one that has heard nothing, and asked for nothing, at a desk whose sessions may have so many bytes
abbrev pub unheard : ℕ → ConnectionValue
unheard limit = record { session = fresh; acts = tasks None []; progress = New; footprint = none_standing limit; last = None; stage = Running }

-- how many bytes it keeps of what its client said: the frame that isn't finished, the members of open transactions, and what is still to
-- be done
abbrev pub kept_in : ConnectionValue → ℕ
kept_in c = length c.session.rest + held_in c.session.phase + weight_of_all (all_of c.acts)

-- its client may be heard: nothing else is to be done first
abbrev pub Listens : ConnectionValue → Type 0
Listens c = (c.stage ≡ Running) × (all_of c.acts ≡ [])

-- the bytes were heard, and what they ask for is to be done
pub record HearsBytes (old : ConnectionValue) (bytes : List ℕ) (new : ConnectionValue) : Type 0 where
  pub acts : List Act
  pub hears : Hears old.session bytes acts new.session
  pub same : new ≡ record old { session = new.session; acts = tasks None acts }

-- memory was refused for them, and the connection is given up
pub record Fails (old new : ConnectionValue) : Type 0 where
  pub failed : new.session.phase ≡ Failed (is_held old.session.phase)
  pub same : new ≡ record old { session = new.session; stage = GivingUp }

-- its link is over
abbrev pub with_lost : ConnectionValue → ConnectionValue
with_lost c = record c { stage = lost c.stage }

-- it is given up
abbrev pub with_given_up : ConnectionValue → ConnectionValue
with_given_up c = record c { stage = given_up c.stage }

-- its link is over, and what its client has asked for and still waits is dropped
abbrev pub evicted : ConnectionValue → ConnectionValue
evicted c = record c { acts = tasks None []; footprint = record c.footprint { cut = cuts.Evicted }; stage = lost c.stage }

-- its next command would pass what it may have: it is given up, and what its client has asked for and still waits is dropped
abbrev pub filled : ConnectionValue → ConnectionValue
filled c = record c { acts = tasks None []; footprint = record c.footprint { cut = cuts.Full c.footprint.room }; stage = given_up c.stage }

-- it may have so many bytes
abbrev pub with_room : ℕ → ConnectionValue → ConnectionValue
with_room room c = record c { footprint = record c.footprint { room = room } }

-- it is lost, which the broker is to hear
abbrev pub IsLost : Stage → Type 0
IsLost GivingUp = Unit {0}
IsLost Leaving = Unit {0}
IsLost _ = ⊥

-- what the loss of a connection asks for: the end of a session that is open
abbrev pub loss_of : Progress → Option Act
loss_of New = None
loss_of (Open number) = Some (Do (ops.End ends.Lost) None)
loss_of (Ended number) = None
loss_of Gone = None

-- The act is the next: the first of those that wait or, if none waits and the connection is lost, what its loss asks for. Nothing else of
-- the connection has changed.
pub record Takes (old new : ConnectionValue) (act : Option Act) : Type 0 where
  pub first : (one : Act) (others : List Act) → all_of old.acts ≡ one ∷ others → (act ≡ Some one) × (all_of new.acts ≡ others) × (new.session ≡ old.session)
  pub loss : all_of old.acts ≡ [] → IsLost old.stage → (act ≡ loss_of old.progress) × (all_of new.acts ≡ []) × (new.session ≡ old.session)
  pub none : all_of old.acts ≡ [] → (IsLost old.stage → ⊥) → (act ≡ None) × (all_of new.acts ≡ []) × (new.session ≡ old.session)
  pub again : new.acts.again ≡ None
  pub same : new ≡ record old { session = new.session; acts = new.acts }

-- once its session has ended, it is closed
abbrev pub closed_behind : Progress → Stage → Stage
closed_behind New stage = Closing Bye
closed_behind (Open number) stage = stage
closed_behind (Ended number) stage = Closing Bye
closed_behind Gone stage = Closing Bye

-- the stage once a session's close is heard: after a DISCONNECT at once, unless its RECEIPT is still to be sent; after an ERROR once that
-- is sent
abbrev pub closed_by : CloseCode → Option ℕ → Progress → Stage → Stage
closed_by NormalClosure None progress stage = closed_behind progress stage
closed_by NormalClosure (Some number) progress stage = stage
closed_by ProtocolError last progress stage = stage

-- What an operation asks for: its command, if that may be the next of the conversation.
abbrev pub Asks : Progress → Op → Option (List ℕ) → Option CommandValue → Type 0
Asks progress op receipt (Some command) = (command ≡ asked progress op receipt) × IsNext progress command
Asks progress op receipt None = IsNext progress (asked progress op receipt) → ⊥

-- a command was appended with that ticket: one in that role, whose RECEIPT may be the last frame
abbrev pub with_appended : ConnectionValue → Role → Bool → ℕ → ConnectionValue
with_appended old role is_last ticket =
    record old { progress = after old.progress role ticket; footprint = settled old.footprint; last = cond is_last (Some ticket) old.last }

-- The frame of that command and verb was sent. After an ERROR the connection is closed and nothing more is appended (STOMP 1.2, "ERROR").
-- After the RECEIPT of the DISCONNECT it is closed ("DISCONNECT").
abbrev pub IsSent : Progress → Stage → Option ℕ → ℕ → Verb → Progress → Stage → Type 0
IsSent was from last number verbs.Error is to = (is ≡ over was) × (to ≡ Closing Bad)
IsSent was from last number verbs.Receipt is to = (is ≡ was) × (last ≡ Some number → to ≡ Closing Bye) × ((last ≡ Some number → ⊥) → to ≡ from)
IsSent was from last number verb is to = (is ≡ was) × (to ≡ from)
