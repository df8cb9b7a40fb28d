-- What is heard while lines are under way.
use Rattle.std.specs.Prelude.{◌≡◌, ◌<◌, ◌⊎◌, ◌^◌, List, [], ◌∷◌, ◌++◌, ℕ, Option, Some, codes, false, true}
use Rattle.std.specs.Str.Parse.{IsNumeral, digits_value}
use Rattle.frame_core.specs.declared.fault.FrameFault.{FrameFault}
use Rattle.frame_core.specs.declared.frame.Frame.{Frame}
use Rattle.frame_core.specs.declared.frame.Verb.TheVariants as verbs
use Rattle.frame_core.specs.Writable.{first_of}
use Rattle.client_core.specs.Answers.{Gives, IsCauseBy}
use Rattle.client_core.specs.Talks.{IsOfPeer}
use Rattle.client_core.specs.Windows.{Lines, is_owed, settled}
use Rattle.client_core.specs.declared.fault.Cause.{Cause}
use Rattle.client_core.specs.declared.fault.Cause.TheVariants.{Memory, NotStomp}
use Rattle.client_core.specs.declared.fault.ClientFault.{ClientFault}
use Rattle.client_core.specs.declared.fault.Step.TheVariants as steps

-- the text has only decimal digits, and they mean this number
abbrev pub Means : List ℕ → ℕ → Type 0
Means text number = IsNumeral 10 text × (number ≡ digits_value 10 text)

-- the frame is a RECEIPT, and its first `receipt-id` the number of that line (STOMP 1.2, "RECEIPT")
abbrev pub IsReceiptOfLine : ℕ → Frame → Type 0
IsReceiptOfLine number frame = (frame.verb ≡ verbs.Receipt) × (id : List ℕ) × (first_of (codes "receipt-id") frame.headers ≡ Some id) × Means id number

-- the frame is the RECEIPT of a line under way, which no longer is
abbrev pub Settles : Frame → Lines → Lines → Type 0
Settles frame before after = (number : ℕ) × IsReceiptOfLine number frame × (is_owed number before.owed ≡ true) × (after ≡ settled number before)

-- the frame is no RECEIPT of a line under way
abbrev pub IsStray : Frame → Lines → Type 0
IsStray frame lines = (number : ℕ) → number < 2 ^ 64 → IsReceiptOfLine number frame → is_owed number lines.owed ≡ false

-- each of these frames, one after another, is the RECEIPT of a line under way
abbrev pub AreSettled : List Frame → Lines → Lines → Type 0
AreSettled [] before after = after ≡ before
AreSettled (frame ∷ frames) before after = (between : Lines) × Settles frame before between × AreSettled frames between after

-- These frames begin with RECEIPTs of lines under way, which no longer are. Then comes another frame, which is the cause; or memory was
-- refused.
abbrev pub StopsAt : List Frame → Lines → Lines → Cause → Type 0
StopsAt frames before after cause =
    (receipts : List Frame) × (others : List Frame) × (frames ≡ receipts ++ others) × AreSettled receipts before after
    × ((cause ≡ Memory) ⊎ ((frame : Frame) × (more : List Frame) × (others ≡ frame ∷ more) × IsStray frame after × IsCauseBy frame cause))

-- so it is, or what comes after the RECEIPTs is no STOMP
abbrev pub IsMissed : List Frame → Option FrameFault → Lines → Lines → Cause → Type 0
IsMissed frames fault before after cause =
    StopsAt frames before after cause ⊎ ((cause ≡ NotStomp) × (code : FrameFault) × (fault ≡ Some code) × AreSettled frames before after)

-- with these bytes other than RECEIPTs come, for that cause; or nothing is noted, since memory was refused
abbrev pub Misses : List ℕ → Lines → Lines → Cause → Type 0
Misses bytes before after cause =
    ((cause ≡ Memory) × (after ≡ before)) ⊎ ((frames : List Frame) × (fault : Option FrameFault) × Gives bytes frames fault × IsMissed frames fault before after cause)

-- the fault is the peer's, or of what came in place of RECEIPTs
abbrev pub HasLineReason : ClientFault → Type 0
HasLineReason fault = IsOfPeer fault.cause
    ⊎ ((fault.step ≡ steps.Receipt) × (bytes : List ℕ) × (before : Lines) × (after : Lines) × Misses bytes before after fault.cause)

-- lines were under way, of which some may be settled
abbrev pub MaySettle : Lines → Lines → Type 0
MaySettle before after = (receipts : List Frame) × AreSettled receipts before after
