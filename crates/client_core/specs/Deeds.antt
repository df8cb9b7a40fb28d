-- What one who listens does for a message.
use Rattle.std.specs.Prelude.{◌≡◌, ◌⊎◌, List, [], ◌∷◌, ◌++◌, ℕ, Bool, Option, None, Some, true, false, codes, cond, flat_map}
use Rattle.frame_core.specs.declared.frame.Frame.{Frame}
use Rattle.frame_core.specs.declared.frame.Verb.TheVariants as verbs
use Rattle.frame_core.specs.Writable.{first_of}
use Rattle.frame_core.specs.Written.{written}
use Rattle.script_text.specs.PercentTexts.{encoded}
use Rattle.client_core.specs.Requests.{ack_frame}
use Rattle.client_core.specs.Talks.{Said, Shown, Spoken}
use Rattle.client_core.specs.declared.listening.Deed.{Deed}
use Rattle.client_core.specs.declared.plan.Plan.{Plan}
use Rattle.std.specs.Global.{Global}
use Rattle.std.specs.Prelude.{Vec}

-- a header on a line of its own
abbrev pub header_line : List ℕ × List ℕ → List ℕ
header_line h = encoded h.0 ++ (58 ∷ (encoded h.1 ++ 10 ∷ []))

-- what is shown of a message: its body and an end of line, perhaps with its headers and an empty line before that
abbrev pub shown_text : Bool → Frame → List ℕ
shown_text with_headers frame = cond with_headers (flat_map header_line frame.headers ++ 10 ∷ []) [] ++ (frame.body ++ 10 ∷ [])

-- A message is shown. If the plan settles it, the ACK with the value of its `ack` is said after that, and else none (STOMP 1.2,
-- "MESSAGE", "ACK").
abbrev pub IsDone : Plan → Frame → List Spoken → Type 0
IsDone plan frame acts = (frame.verb ≡ verbs.Message)
    × (((plan.settles ≡ false) × (acts ≡ Shown (shown_text plan.with_headers frame) ∷ []))
    ⊎ ((plan.settles ≡ true) × (delivery : List ℕ) × (first_of (codes "ack") frame.headers ≡ Some delivery)
    × (acts ≡ Shown (shown_text plan.with_headers frame) ∷ Said (written (ack_frame delivery)) ∷ [])))

-- what is done for a deed: its text is shown, and its frame said after that, if it has one
abbrev pub said_of : Option (Vec ℕ Global) → List Spoken
said_of None = []
said_of (Some ack) = Said ack.items ∷ []

abbrev pub acts_of : Deed → List Spoken
acts_of deed = Shown deed.text.items ∷ said_of deed.ack

-- so are these, one after another
abbrev pub AreDone : Plan → List Frame → List Spoken → Type 0
AreDone plan [] acts = acts ≡ []
AreDone plan (frame ∷ frames) acts = (one : List Spoken) × (more : List Spoken) × IsDone plan frame one × AreDone plan frames more × (acts ≡ one ++ more)
