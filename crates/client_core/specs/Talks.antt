-- What a client and its peer say to each other.
use Rattle.std.specs.Prelude.{◌≡◌, ◌⊎◌, List, [], ◌∷◌, ◌++◌, ℕ, Option, None, Some, true, map, ⊤}
use Rattle.std.specs.List.{flat_map}
use Rattle.client_core.specs.Answers.{Breaks, Hears, said, step_of}
use Rattle.client_core.specs.declared.fault.Cause.{Cause}
use Rattle.client_core.specs.declared.fault.Cause.TheVariants.{Error, Other, NotStomp, Output}
use Rattle.client_core.specs.declared.fault.Step.{Step}
use Rattle.client_core.specs.declared.fault.Step.TheVariants as steps
use Rattle.client_core.specs.declared.fault.ClientFault.{ClientFault}
use Rattle.client_core.specs.declared.probe.Probe.{Probe}
use Rattle.client_core.specs.declared.probe.Probe.TheVariants.{Connect, Send, Disconnect}

-- the client has said a frame, or heard a piece of what the peer says, or shown a text to the user
pub data Spoken : Type 0 where
  Said : List ℕ → Spoken
  Heard : List ℕ → Spoken
  Shown : List ℕ → Spoken

-- a talk that is told goes on by this
abbrev pub Adds : List Spoken → Option (List Spoken) → Option (List Spoken) → Type 0
Adds more None after = ⊤
Adds more (Some before) None = ⊥
Adds more (Some before) (Some after) = after ≡ before ++ more

-- the cause is not that of a frame, or of bytes that are no frame
abbrev pub IsOfPeer : Cause → Type 0
IsOfPeer (Error text) = ⊥
IsOfPeer (Other verb) = ⊥
IsOfPeer NotStomp = ⊥
IsOfPeer _ = Unit {0}

-- the bytes of pieces
abbrev pub all_of : List (List ℕ) → List ℕ
all_of pieces = flat_map (λ piece. piece) pieces

-- the pieces, however they are cut, are one frame, which answers, and perhaps the beginning of one more
abbrev pub IsAnswered : Probe → List (List ℕ) → Type 0
IsAnswered probe pieces = (rest : List ℕ) × Hears probe (all_of pieces) rest true

-- a frame that is said, and the pieces that are heard then
abbrev pub turn : List ℕ → List (List ℕ) → List Spoken
turn frame pieces = Said frame ∷ map Heard pieces

-- the frame is said, and answered as that probe awaits
abbrev pub Answers : Probe → List ℕ → Option (List Spoken) → Option (List Spoken) → Type 0
Answers probe frame before after = (pieces : List (List ℕ)) × Adds (turn frame pieces) before after × IsAnswered probe pieces

-- the frame is said, and not answered so, for that cause, which the pieces give
abbrev pub Refuses : Probe → List ℕ → Cause → Option (List Spoken) → Option (List Spoken) → Type 0
Refuses probe frame cause before after = (pieces : List (List ℕ)) × Adds (turn frame pieces) before after × Breaks probe (all_of pieces) cause

-- the frame is not answered as that probe awaits: the fault is the peer's, or of the probe's step and what was heard
abbrev pub IsUnanswered : Probe → List ℕ → ClientFault → Option (List Spoken) → Option (List Spoken) → Type 0
IsUnanswered probe frame fault before after = IsOfPeer fault.cause ⊎ ((fault.step ≡ step_of probe) × Refuses probe frame fault.cause before after)

-- the fault is the peer's, or its cause is that of bytes that do not answer at the probe of its step
abbrev pub HasReason : ClientFault → Type 0
HasReason fault = IsOfPeer fault.cause ⊎ ((probe : Probe) × (bytes : List ℕ) × (fault.step ≡ step_of probe) × Breaks probe bytes fault.cause)

-- these frames are said, each once the one before is answered as its probe awaits
abbrev pub AreAnswered : List (Probe × List ℕ) → Option (List Spoken) → Option (List Spoken) → Type 0
AreAnswered [] before after = after ≡ before
AreAnswered (one ∷ more) before after = (between : Option (List Spoken)) × Answers one.0 one.1 before between × AreAnswered more between after

-- what was asked for was not answered: the session was not opened, or its RECEIPT did not come
abbrev pub IsUndone : ClientFault → Type 0
IsUndone fault = (fault.step ≡ steps.Connected) ⊎ (fault.step ≡ steps.Receipt)

-- these frames are said, each once the one before is answered, and then perhaps more
abbrev pub AreDoneFirst : List (Probe × List ℕ) → Option (List Spoken) → Option (List Spoken) → Type 0
AreDoneFirst turns before after = (between : Option (List Spoken)) × AreAnswered turns before between

-- the talk that leads to a probe: what is said before it is answered
abbrev pub Leads : Probe → List Spoken → Type 0
Leads Connect talk = talk ≡ []
Leads Send talk = (one : List (List ℕ)) × (talk ≡ turn (said Connect) one) × IsAnswered Connect one
Leads Disconnect talk = (one : List (List ℕ)) × (two : List (List ℕ)) × (talk ≡ turn (said Connect) one ++ turn (said Send) two) × IsAnswered Connect one × IsAnswered Send two

-- the whole conversation of a ping: CONNECT, a COMMIT and DISCONNECT, each said once the one before is answered, and all answered
abbrev pub Converses : Option (List Spoken) → Option (List Spoken) → Type 0
Converses before after =
    (talk : List Spoken) × (last : List (List ℕ)) × Leads Disconnect talk × Adds (talk ++ turn (said Disconnect) last) before after × IsAnswered Disconnect last

-- At the probe of a fault's step, what was heard is no answer, for the fault's cause; all that was said before is answered.
abbrev pub BreaksOff : ClientFault → Option (List Spoken) → Option (List Spoken) → Type 0
BreaksOff fault before after =
    (probe : Probe) × (talk : List Spoken) × (last : List (List ℕ)) × (fault.step ≡ step_of probe) × Leads probe talk
    × Adds (talk ++ turn (said probe) last) before after × Breaks probe (all_of last) fault.cause

-- the step that went wrong while one listened: no message came, or none could be shown
abbrev pub listening_step : Cause → Step
listening_step Output = steps.Output
listening_step _ = steps.Message
