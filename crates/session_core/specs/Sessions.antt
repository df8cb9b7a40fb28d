use Rattle.std.specs.Prelude.{◌≡◌, ◌⊎◌, List, [], ◌∷◌, ◌++◌, ℕ, Bool, true, false, Option, Some, None, Result, Ok, Err, cond}
use Rattle.frame_core.specs.declared.frame.Frame.{Frame}
use Rattle.frame_core.specs.declared.fault.FrameFault.{FrameFault}
use Rattle.frame_core.specs.Streams.{Reads, Fails}
use Rattle.command_core.specs.declared.command.Op.{Op}
use Rattle.command_core.specs.declared.command.Op.TheVariants as ops
use Rattle.command_core.specs.declared.command.End.TheVariants.{Bye, Lost, Bad}
use Rattle.command_core.specs.declared.fault.Fault.{Fault}
use Rattle.command_core.specs.declared.fault.Fault.TheVariants.{TransactionNotBegun}
use Rattle.command_core.specs.declared.command.Member.{Member}
use Rattle.command_core.specs.Commands.{Fits}
use Rattle.command_core.specs.Faults.{fault_of}
use Rattle.command_core.specs.Operations.{IsOp, op_of}
use Rattle.command_core.specs.Replies.{error_frame}
use Rattle.tx_core.specs.Refusals.{refusal_of_add, refusal_of_begin, refusal_of_end}
use Rattle.tx_core.specs.Transactions.{added, begun, bytes_of_all, members_of, without}
use Rattle.session_core.specs.declared.session.Act.{Act}
use Rattle.session_core.specs.declared.session.Act.TheVariants.{Do, Direct, Close}
use Rattle.session_core.specs.declared.session.CloseCode.TheVariants.{NormalClosure, ProtocolError}
use Rattle.session_core.specs.declared.requests.Request.{Request}
use Rattle.session_core.specs.declared.requests.Request.TheVariants.{Ask, Join, Begin, Commit, Abort, Disconnect}
use Rattle.session_core.specs.declared.session.Phase.{Phase}
use Rattle.session_core.specs.declared.session.Phase.TheVariants.{New, Open, Ended, Failed}
use Rattle.session_core.specs.ReadFrames.{receipt_of}
use Rattle.session_core.specs.Requests.{asked, asked_first}

-- what is to be done for a frame, and where the session stands after it
pub record Heard : Type 0 where
  pub acts : List Act
  pub phase : Phase

-- the broker is asked for an operation, with the receipt that goes with it
abbrev pub does : Op → Option (List ℕ) → List (List ℕ × List Member) → Heard
does op receipt transactions = record { acts = Do op receipt ∷ []; phase = Open transactions }

-- the receipt that is asked for when there is nothing to be done yet
abbrev pub note : Option (List ℕ) → List Act
note None = []
note (Some id) = Do ops.Note (Some id) ∷ []

-- What a fault leads to: before the session is open an ERROR at once, later its end by the broker. Then the connection
-- ends (STOMP 1.2, "ERROR").
abbrev pub refused : Phase → Fault → Option (List ℕ) → List Act
refused New fault receipt = Direct (error_frame fault receipt) ∷ Close ProtocolError ∷ []
refused (Open transactions) fault receipt = Do (ops.End (Bad fault)) receipt ∷ Close ProtocolError ∷ []
refused _ fault receipt = []

-- the session ends by a fault
abbrev pub ends_by : Fault → Option (List ℕ) → Heard
ends_by fault receipt = record { acts = refused (Open []) fault receipt; phase = Ended }

-- these are the open transactions then, unless that is refused
abbrev pub unless : Option Fault → List (List ℕ × List Member) → Option (List ℕ) → Heard
unless None transactions receipt = record { acts = note receipt; phase = Open transactions }
unless (Some fault) transactions receipt = ends_by fault receipt

-- what a COMMIT of a transaction of these members leads to (STOMP 1.2, "COMMIT")
abbrev pub committed : List ℕ → Option (List Member) → List (List ℕ × List Member) → Option (List ℕ) → Heard
committed name None transactions receipt = ends_by TransactionNotBegun receipt
committed name (Some members) transactions receipt = does (ops.Commit members) receipt (without name transactions)

-- what a session with these open transactions does for a request (STOMP 1.2, "BEGIN", "COMMIT", "ABORT" and "DISCONNECT")
abbrev pub executed : List (List ℕ × List Member) → Request → Option (List ℕ) → Heard
executed transactions (Ask op) receipt = does op receipt transactions
executed transactions (Join member None) receipt = does (op_of member) receipt transactions
executed transactions (Join member (Some name)) receipt = unless (refusal_of_add name member transactions) (added name member transactions) receipt
executed transactions (Begin name) receipt = unless (refusal_of_begin name transactions) (begun name transactions) receipt
executed transactions (Commit name) receipt = committed name (members_of name transactions) transactions receipt
executed transactions (Abort name) receipt = unless (refusal_of_end name transactions) (without name transactions) receipt
executed transactions Disconnect receipt = record { acts = Do (ops.End Bye) receipt ∷ Close NormalClosure ∷ []; phase = Ended }

abbrev pub answered : List (List ℕ × List Member) → Result Request Fault → Option (List ℕ) → Heard
answered transactions (Ok request) receipt = executed transactions request receipt
answered transactions (Err fault) receipt = ends_by fault receipt

abbrev pub first_answered : Result Op Fault → Option (List ℕ) → Heard
first_answered (Ok op) receipt = does op receipt []
first_answered (Err fault) receipt = record { acts = refused New fault receipt; phase = Ended }

-- what a session does for a frame; one that is over ignores it
abbrev pub heard : Phase → Frame → Heard
heard New frame = first_answered (asked_first frame) (receipt_of frame)
heard (Open transactions) frame = answered transactions (asked frame) (receipt_of frame)
heard phase frame = record { acts = []; phase = phase }

abbrev pub told : Phase → Frame → List Act
told phase frame = (heard phase frame).acts

abbrev pub next : Phase → Frame → Phase
next phase frame = (heard phase frame).phase

-- what is to be done for frames, one after another
abbrev pub acts_of : Phase → List Frame → List Act
acts_of phase [] = []
acts_of phase (frame ∷ frames) = told phase frame ++ acts_of (next phase frame) frames

-- where the session stands after them
abbrev pub phase_of : Phase → List Frame → Phase
phase_of phase [] = phase
phase_of phase (frame ∷ frames) = phase_of (next phase frame) frames

-- the session hears no more
abbrev pub IsOver : Phase → Type 0
IsOver New = ⊥
IsOver (Open transactions) = ⊥
IsOver _ = Unit {0}

-- how many bytes the members of open transactions take there
abbrev pub held_in : Phase → ℕ
held_in (Open transactions) = bytes_of_all transactions
held_in _ = 0

-- what a session keeps: the bytes of the frame that isn't finished, and where it stands
pub record Hearing : Type 0 where
  pub rest : List ℕ
  pub phase : Phase

-- a session that has heard nothing
abbrev pub fresh : Hearing
fresh = record { rest = []; phase = New }

-- the bytes are whole frames and a part of one
pub record HearsFrames (old : Hearing) (bytes : List ℕ) (acts : List Act) (new : Hearing) : Type 0 where
  pub frames : List Frame
  pub reads : Reads (old.rest ++ bytes) frames new.rest
  pub same_acts : acts ≡ acts_of old.phase frames
  pub phase : new.phase ≡ phase_of old.phase frames

-- the bytes have a fault after whole frames
pub record HearsFault (old : Hearing) (bytes : List ℕ) (acts : List Act) (new : Hearing) : Type 0 where
  pub frames : List Frame
  pub fault : FrameFault
  pub fails : Fails (old.rest ++ bytes) frames fault
  pub same_acts : acts ≡ acts_of old.phase frames ++ refused (phase_of old.phase frames) (fault_of fault) None
  pub phase : new.phase ≡ Ended

-- What a session does for bytes that it hears after those that it keeps: what their frames ask for, and what a fault of
-- the stream leads to. A session that is over ignores them.
abbrev pub Hears : Hearing → List ℕ → List Act → Hearing → Type 0
Hears old bytes acts new =
    (IsOver old.phase × (acts ≡ []) × (new ≡ old)) ⊎ (((IsOver old.phase → ⊥) × HearsFrames old bytes acts new) ⊎ ((IsOver old.phase → ⊥) × HearsFault old bytes acts new))

-- the broker was asked to open it, and not to end it
abbrev pub is_held : Phase → Bool
is_held New = false
is_held (Open transactions) = true
is_held Ended = false
is_held (Failed held) = held

-- what is to be done if the connection is gone (STOMP 1.2, "Connection Lingering")
abbrev pub loss_of : Phase → Option Act
loss_of phase = cond (is_held phase) (Some (Do (ops.End Lost) None)) None

-- where the session stands then
abbrev pub after_loss : Phase → Phase
after_loss New = Ended
after_loss (Open transactions) = Ended
after_loss Ended = Ended
after_loss (Failed held) = Failed false

-- the form of a command's parts before it has its session
abbrev pub HasForm : Act → Type 0
HasForm (Do op receipt) = Fits op 0 receipt × IsOp op
HasForm _ = Unit {0}
