-- What a connection at a seat has appended of all that its client's bytes ask for.
use Rattle.std.specs.Prelude.{◌≡◌, ◌⊎◌, ◌∷◌, ◌++◌, ℕ, List, [], Option, Some, None, option_map}
use Rattle.std.specs.List.{AllByRecursion}
use Rattle.command_core.specs.Commands.{CommandValue}
use Rattle.command_core.specs.declared.command.Op.{Op}
use Rattle.command_core.specs.declared.command.Op.TheVariants as ops
use Rattle.command_core.specs.declared.command.End.TheVariants as ends
use Rattle.claim_core.specs.Seats.{SessionSeatValue}
use Rattle.session_core.specs.declared.session.Act.{Act}
use Rattle.session_core.specs.declared.session.Act.TheVariants.{Do}
use Rattle.session_core.specs.Sessions.{Hearing, Hears, IsOver, fresh}
use Rattle.clients.specs.Connections.{ConnectionValue, connection_of}
use Rattle.clients.specs.Progress.{IsDone, IsFinished, IsNext, asked}
use Rattle.clients.specs.Concluding.{follow}
use Rattle.clients.specs.Stages.{CanTell, Executes, IsEnding}
use Rattle.clients.specs.Acts.{all_of}
use Rattle.clients.specs.declared.progress.Progress.{Progress}
use Rattle.clients.specs.declared.progress.Progress.TheVariants.{New}
use Rattle.clients.specs.declared.turned.Ended.{Ended}
use Rattle.clients.specs.declared.turned.Ended.TheVariants.{Bye, Lost, Bad, Stopped}
use Rattle.clients.specs.declared.progress.Stage.{Stage}
use Rattle.clients.specs.declared.progress.Stage.TheVariants.{Running, GivingUp, Closing, Parting, Leaving, Over}
use Rattle.clients.specs.Boxes.{BoxEntry}
use Rattle.clients.specs.Conversations.{StaysOrEnds}
use Rattle.clients.specs.Effects.{Effect, Does, commands_of, told_of, untold_of}
use Rattle.clients.specs.Halting.{FindsEnd, HasHalted}
use Rattle.clients.specs.SessionBytes.{IsCut, KeepsRoom, Spends, waiting_of}
use Rattle.clients.specs.declared.client.Client.{Client}

-- the session's end, which a connection that is lost asks for
abbrev pub IsLoss : Act → Type 0
IsLoss act = act ≡ Do (ops.End ends.Lost) None

-- what was taken of the acts and is not done yet: nothing, an act, or the command of one, whose entry waits for room
pub data Undone : Type 0 where
  Nothing : Undone
  Taken : Act → Undone
  Waits : CommandValue → Undone

-- its act
abbrev pub act_of : Undone → List Act
act_of Nothing = []
act_of (Taken act) = act ∷ []
act_of (Waits c) = Do c.op c.receipt ∷ []

-- a command that waits is what the conversation has next
abbrev pub IsAsked : Progress → Undone → Type 0
IsAsked p (Waits c) = IsNext p c × (c ≡ asked p c.op c.receipt)
IsAsked p undone = Unit {0}

-- it ends after an ERROR
abbrev pub IsBad : Ended → Type 0
IsBad Bad = Unit {0}
IsBad Bye = ⊥
IsBad Lost = ⊥
IsBad Stopped = ⊥

-- it runs or is given up, or it ends because an ERROR was sent
abbrev pub HasTold : Stage → Type 0
HasTold Running = Unit {0}
HasTold GivingUp = Unit {0}
HasTold (Closing ended) = IsBad ended
HasTold (Parting ended) = IsBad ended
HasTold Leaving = ⊥
HasTold (Over ended) = IsBad ended

-- the RECEIPT of its DISCONNECT is waited for only once nothing more is appended
abbrev pub IsLast : ConnectionValue → Type 0
IsLast c = (c.last ≡ None) ⊎ IsFinished c.progress

-- These bytes came of its client. Of all that they ask for this was done: what the first acts ask for, and, if the connection was lost, its
-- session's end. While it runs, no byte is left out. While it may append, no act is left out, but for those that are cut off: its
-- session would pass what it may have, or it was evicted. The others wait, first the one that was taken. While it runs or is given up, and if it ends because an
-- ERROR was sent, no frame was left untold. If it ends, its session has ended: none was opened, its End was appended, or its client was
-- sent an ERROR.
pub record Lives (bytes : List ℕ) (effects : List Effect) (c : ConnectionValue) (undone : Undone) : Type 0 where
  pub heard : List ℕ
  pub unheard : List ℕ
  pub whole : bytes ≡ heard ++ unheard
  pub all : List Act
  pub session : Hearing
  pub hears : Hears fresh heard all session
  pub asked_for : List Act
  pub cut : List Act
  pub halves : all ≡ asked_for ++ cut
  pub losses : List Act
  pub are_losses : AllByRecursion IsLoss losses
  pub done : List Act
  pub left : List Act
  pub split : asked_for ++ losses ≡ done ++ (act_of undone ++ (left ++ all_of c.acts))
  pub cut_for : IsCut c.footprint.cut asked_for cut done (commands_of effects)
  pub reached : Progress
  pub does : Does New done effects reached
  pub none_untold : HasTold c.stage → untold_of effects ≡ []
  pub none_unheard : c.stage ≡ Running → unheard ≡ []
  pub none_lost : c.stage ≡ Running → losses ≡ []
  pub none_cut : c.stage ≡ Running → cut ≡ []
  pub phase : c.stage ≡ Running → session.phase ≡ c.session.phase
  pub rest : c.stage ≡ Running → (IsOver c.session.phase → ⊥) → session ≡ c.session
  pub none_left : Executes c.stage → left ≡ []
  pub stands : Executes c.stage → c.progress ≡ reached
  pub next : Executes c.stage → IsAsked reached undone
  pub stood : StaysOrEnds reached c.progress
  pub last : IsLast c
  pub ended : IsEnding c.stage → IsDone c.progress

-- what is undone between the turns of a client: the command of an entry that waits for room
abbrev pub undone_of : Option BoxEntry → Undone
undone_of None = Nothing
undone_of (Some entry) = Waits entry.command

-- a client has come so far, and keeps within the bytes of its desk
abbrev pub LivesAt : {B : Type 0} → List ℕ → List Effect → Client B → Type 0
LivesAt bytes effects client = Lives bytes effects (connection_of client) (undone_of client.waiting) × Spends effects (connection_of client) (waiting_of client.waiting)

-- Nothing of what is to be done has changed. The connection neither runs nor appends if it did not before, nor ends before its session has.
pub record Restaged (old new : ConnectionValue) : Type 0 where
  pub acts : new.acts ≡ old.acts
  pub session : new.stage ≡ Running → new.session ≡ old.session
  pub runs : new.stage ≡ Running → old.stage ≡ Running
  pub told : HasTold new.stage → HasTold old.stage
  pub executes : Executes new.stage → Executes old.stage
  pub progress : Executes new.stage → new.progress ≡ old.progress
  pub footprint : new.footprint ≡ old.footprint
  pub last : new.last ≡ old.last
  pub stood : StaysOrEnds old.progress new.progress
  pub ended : IsLast old → (IsEnding old.stage → IsDone old.progress) → IsEnding new.stage → IsDone new.progress

-- the same, and it is not stopped if it was not before, nor may its client be told what it might not before
pub record Steady (old new : ConnectionValue) : Type 0 where
  pub restaged : Restaged old new
  pub tells : CanTell new.stage → CanTell old.stage
  pub halts : HasHalted new.stage → HasHalted old.stage

-- A client goes on so, with the bytes that its link says it received, and these effects.
pub record Heeds {B L : Type 0} (received : L → Option (List ℕ)) (was : Client B) (from : L) (is : Client B) (to : L) (effects : List Effect) : Type 0 where
  pub got : List ℕ
  pub read : received to ≡ option_map (λ bytes. bytes ++ got) (received from)
  pub lives : (bytes : List ℕ) (before : List Effect) → LivesAt bytes before was → LivesAt (bytes ++ got) (before ++ effects) is

-- It goes on so with no effect, and what is counted of it stays. It is not stopped if it was not before, nor may its client be told what it
-- might not before.
pub record Idles {B L : Type 0} (received : L → Option (List ℕ)) (was : Client B) (from : L) (is : Client B) (to : L) : Type 0 where
  pub heeds : Heeds received was from is to []
  pub footprint : is.footprint ≡ was.footprint
  pub tells : CanTell is.stage → CanTell was.stage
  pub halts : HasHalted is.stage → HasHalted was.stage

-- it goes on so from where this is undone, and this is counted beside what was appended, with these effects
abbrev pub LivesOn : Undone → List Op → ConnectionValue → ConnectionValue → Option BoxEntry → List Effect → Type 0
LivesOn undone counted old new waiting effects =
    (bytes : List ℕ) (before : List Effect) → Lives bytes before old undone → Spends before old counted
    → Lives bytes (before ++ effects) new (undone_of waiting) × Spends (before ++ effects) new (waiting_of waiting)

-- with the commands that its seat got, and no frame
pub record DoesUndone (undone : Undone) (counted : List Op) (old : ConnectionValue) (was : SessionSeatValue) (new : ConnectionValue) (waiting : Option BoxEntry) (is : SessionSeatValue) : Type 0 where
  pub effects : List Effect
  pub added : is.own ≡ was.own ++ commands_of effects
  pub none_told : told_of effects ≡ []
  pub follows : new.progress ≡ follow old.progress (commands_of effects)
  pub tells : CanTell new.stage → CanTell old.stage
  pub keeps : KeepsRoom old new
  pub halts : HasHalted new.stage → HasHalted old.stage ⊎ FindsEnd is
  pub lives : LivesOn undone counted old new waiting effects
