-- What a ping says, and what answers it.
use Rattle.std.specs.Prelude.{◌≡◌, ◌≢◌, ◌⊎◌, List, [], ◌∷◌, ◌++◌, ℕ, Bool, true, false, Option, None, Some, codes, unwrap_or}
use Rattle.frame_core.specs.declared.fault.FrameFault.{FrameFault}
use Rattle.frame_core.specs.declared.frame.Frame.{Frame}
use Rattle.frame_core.specs.declared.frame.Verb.TheVariants as verbs
use Rattle.frame_core.specs.Streams.{Fails, Reads}
use Rattle.frame_core.specs.Writable.{first_of}
use Rattle.script_text.specs.PercentTexts.{encoded}
use Rattle.client_core.specs.declared.fault.Cause.{Cause}
use Rattle.client_core.specs.declared.fault.Cause.TheVariants.{Error, Other, NotStomp}
use Rattle.client_core.specs.declared.fault.Step.{Step}
use Rattle.client_core.specs.declared.fault.Step.TheVariants.{Connected, Receipt, Farewell}
use Rattle.client_core.specs.declared.probe.Probe.{Probe}
use Rattle.client_core.specs.declared.probe.Probe.TheVariants.{Connect, Send, Disconnect}

-- the frames that are said (STOMP 1.2, "CONNECT or STOMP Frame", "BEGIN", "COMMIT", "DISCONNECT"), up to the last NUL
abbrev pub said : Probe → List ℕ
said Connect = codes "CONNECT\naccept-version:1.2\nhost:127.0.0.1\n\n" ++ 0 ∷ []
said Send = codes "BEGIN\ntransaction:ping\n\n" ++ 0 ∷ codes "COMMIT\ntransaction:ping\nreceipt:sent\n\n" ++ 0 ∷ []
said Disconnect = codes "DISCONNECT\nreceipt:left\n\n" ++ 0 ∷ []

-- the step that goes wrong if no answer comes
abbrev pub step_of : Probe → Step
step_of Connect = Connected
step_of Send = Receipt
step_of Disconnect = Farewell

-- its first `receipt-id` is that one
abbrev pub HasId : List ℕ → Frame → Type 0
HasId id frame = first_of (codes "receipt-id") frame.headers ≡ Some id

-- the frame is the RECEIPT with that id (STOMP 1.2, "RECEIPT")
abbrev pub IsReceiptOf : List ℕ → Frame → Type 0
IsReceiptOf id frame = (frame.verb ≡ verbs.Receipt) × HasId id frame

-- the frame answers what was said (STOMP 1.2, "CONNECTED Frame", "RECEIPT")
abbrev pub IsAnswer : Probe → Frame → Type 0
IsAnswer Connect frame = frame.verb ≡ verbs.Connected
IsAnswer Send frame = IsReceiptOf (codes "sent") frame
IsAnswer Disconnect frame = IsReceiptOf (codes "left") frame

-- what came is no frame yet, or the answer alone
abbrev pub AreHeard : Probe → List Frame → Bool → Type 0
AreHeard probe frames false = frames ≡ []
AreHeard probe frames true = (frame : Frame) × (frames ≡ frame ∷ []) × IsAnswer probe frame

abbrev pub AreRight : Probe → List Frame → Type 0
AreRight probe frames = (is_answered : Bool) × AreHeard probe frames is_answered

-- the bytes are such frames, and the beginning of one more
abbrev pub Hears : Probe → List ℕ → List ℕ → Bool → Type 0
Hears probe bytes rest is_answered = (frames : List Frame) × Reads bytes frames rest × AreHeard probe frames is_answered

-- this is the first of the frames that should not have come: it stands first and is no answer, or stands after the answer
abbrev pub IsWrong : Probe → List Frame → Frame → Type 0
IsWrong probe frames frame =
    ((others : List Frame) × (frames ≡ frame ∷ others) × (IsAnswer probe frame → ⊥))
    ⊎ ((answer : Frame) × (others : List Frame) × (frames ≡ answer ∷ frame ∷ others) × IsAnswer probe answer)

-- what an ERROR says of itself: its first `message`, as text of one line (STOMP 1.2, "ERROR")
abbrev pub told_by : Frame → List ℕ
told_by frame = encoded (unwrap_or (first_of (codes "message") frame.headers) [])

-- what is told of a frame that should not have come
abbrev pub IsCauseBy : Frame → Cause → Type 0
IsCauseBy frame (Error text) = (frame.verb ≡ verbs.Error) × (text ≡ told_by frame)
IsCauseBy frame (Other verb) = (frame.verb ≡ verb) × (verb ≢ verbs.Error)
IsCauseBy frame _ = ⊥

-- what is told of frames, and of the fault after them: that it is not STOMP is told only if all before the fault was right
abbrev pub IsCauseOf : Probe → List Frame → Option FrameFault → Cause → Type 0
IsCauseOf probe frames fault NotStomp = (code : FrameFault) × (fault ≡ Some code) × AreRight probe frames
IsCauseOf probe frames fault cause = (frame : Frame) × IsWrong probe frames frame × IsCauseBy frame cause

-- the bytes are these frames, and the beginning of one more, or a fault
abbrev pub Gives : List ℕ → List Frame → Option FrameFault → Type 0
Gives bytes frames None = (rest : List ℕ) × Reads bytes frames rest
Gives bytes frames (Some fault) = Fails bytes frames fault

-- with these bytes the answer does not come, for that cause
abbrev pub Breaks : Probe → List ℕ → Cause → Type 0
Breaks probe bytes cause = (frames : List Frame) × (fault : Option FrameFault) × Gives bytes frames fault × IsCauseOf probe frames fault cause
