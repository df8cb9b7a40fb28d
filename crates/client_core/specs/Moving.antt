-- How messages are moved from one place to another.
use Rattle.std.specs.Prelude.{◌≡◌, ◌<◌, ◌≤◌, ◌⊎◌, ◌+◌, ◌^◌, ◌++◌, ◌==◌, ◌||◌, List, [], ◌∷◌, ℕ, Bool, None, Option, Some, ⊤, bytes_eq, codes, decimal, drop, false, filter, flat_map, length, not, true}
use Rattle.std.specs.List.{before_first}
use Rattle.frame_core.specs.declared.frame.Frame.{Frame}
use Rattle.frame_core.specs.declared.frame.Verb.{Verb}
use Rattle.frame_core.specs.declared.frame.Verb.TheVariants as verbs
use Rattle.frame_core.specs.Writable.{first_of}
use Rattle.frame_core.specs.Written.{written}
use Rattle.client_core.specs.Answers.{IsReceiptOf}
use Rattle.client_core.specs.Lines.{Means}
use Rattle.client_core.specs.declared.moving.Route.{Route}
use Rattle.client_core.specs.declared.moving.Saying.{Saying}
use Rattle.client_core.specs.declared.moving.Saying.TheVariants.{Here, There}
use Rattle.client_core.specs.declared.moving.Stage.{Stage}
use Rattle.client_core.specs.declared.moving.Stage.TheVariants.{Free, Sent, Stored, Settling}

-- The headers that the server makes anew for each delivery, and those that say how a SEND is taken (STOMP 1.2, "MESSAGE", "SEND"). A message
-- keeps all others (docs/PROTOCOL.md, "The broker").
abbrev pub is_made_anew : List ℕ → Bool
is_made_anew name =
    bytes_eq name (codes "destination") || bytes_eq name (codes "receipt") || bytes_eq name (codes "transaction") || bytes_eq name (codes "content-length")
    || bytes_eq name (codes "subscription") || bytes_eq name (codes "message-id") || bytes_eq name (codes "ack")

-- the headers that a message keeps wherever it goes, in their order
abbrev pub kept_headers : List (List ℕ × List ℕ) → List (List ℕ × List ℕ)
kept_headers headers = filter (λ h. not (is_made_anew h.0)) headers

-- a frame with these headers, and no body
abbrev pub bare_frame : Verb → List (List ℕ × List ℕ) → Frame
bare_frame verb headers = record { verb = verb; headers = headers; body = [] }

-- SEND to another destination, with one header more
abbrev pub sent_frame : List ℕ → List ℕ × List ℕ → List (List ℕ × List ℕ) → List ℕ → Frame
sent_frame to more headers body = record {
  verb = verbs.Send;
  headers = (codes "destination", to) ∷ more ∷ (codes "content-length", decimal (length body)) ∷ kept_headers headers;
  body = body;
}

-- that of a message: its body, and the headers that it keeps
abbrev pub moved_frame : List ℕ → List ℕ × List ℕ → Frame → Frame
moved_frame to more message = sent_frame to more message.headers message.body

-- the frames that move a message in one transaction: ACK of this delivery, whose room the message needs, and SEND to its new place
abbrev pub transaction_frames : List ℕ → List ℕ → Frame → List ℕ → List Frame
transaction_frames number to message delivery =
    bare_frame verbs.Begin ((codes "transaction", number) ∷ [])
    ∷ bare_frame verbs.Ack ((codes "id", delivery) ∷ (codes "transaction", number) ∷ [])
    ∷ moved_frame to (codes "transaction", number) message
    ∷ bare_frame verbs.Commit ((codes "transaction", number) ∷ (codes "receipt", number) ∷ [])
    ∷ []

-- ACK of this delivery, with a receipt
abbrev pub settling_frame : List ℕ → List ℕ → Frame
settling_frame number delivery = bare_frame verbs.Ack ((codes "id", delivery) ∷ (codes "receipt", number) ∷ [])

-- The messages that came and are not moved, in their order; how far the first of them is; and how many were moved. The number that a message
-- had at most that was there when it began, if that is known; and whether one came that was not.
pub record Moves : Type 0 where
  pub waiting : List Frame
  pub stage : Stage
  pub moved : ℕ
  pub bound : Option ℕ
  pub is_over : Bool

-- the number that CONNECTED gives a session
abbrev pub IsSession : ℕ → Frame → Type 0
IsSession number frame = (text : List ℕ) × (first_of (codes "session") frame.headers ≡ Some text) × Means text number

-- The number of the command by which a message came stands before the point of its `message-id` (docs/PROTOCOL.md, "The broker").
abbrev pub IsNumbered : ℕ → Frame → Type 0
IsNumbered number message = (id : List ℕ) × (first_of (codes "message-id") message.headers ≡ Some id) × Means (before_first (λ b. b == 46) id) number

-- a message came after the command of that number, if that is known
abbrev pub IsLater : Option ℕ → Frame → Type 0
IsLater None message = ⊥
IsLater (Some limit) message = (number : ℕ) × IsNumbered number message × (limit < number)

-- it did not, or nobody knows, since one of both has no number
abbrev pub IsEarly : Option ℕ → Frame → Type 0
IsEarly None message = ⊤
IsEarly (Some limit) message = ((number : ℕ) × IsNumbered number message × (number ≤ limit)) ⊎ ((number : ℕ) → number < 2 ^ 64 → IsNumbered number message → ⊥)

-- one came that was not there when it began, and none waits
abbrev pub IsDone : Moves → Type 0
IsDone moves = (moves.is_over ≡ true) × (moves.waiting ≡ [])

-- the number of the message that is moved next, or is under way
abbrev pub number_of : Moves → List ℕ
number_of moves = decimal (moves.moved + 1)

-- the message that waits first
abbrev pub IsFirst : Frame → Moves → Type 0
IsFirst message moves = moves.waiting ≡ message ∷ drop 1 moves.waiting

-- the message says how it is settled (STOMP 1.2, "MESSAGE")
abbrev pub IsSettledBy : Frame → List ℕ → Type 0
IsSettledBy message delivery = first_of (codes "ack") message.headers ≡ Some delivery

-- This is said of a message. It is moved in one transaction, or sent to the other server; or that has it, and it is settled here.
abbrev pub IsSaid : Route → Frame → List ℕ → Stage → Saying → Type 0
IsSaid route message number Free (Here text) = (route.is_far ≡ false)
    × (delivery : List ℕ) × IsSettledBy message delivery × (text.items ≡ flat_map written (transaction_frames number route.destination.now message delivery))
IsSaid route message number Free (There text) = (route.is_far ≡ true) × (text.items ≡ written (moved_frame route.destination.now (codes "receipt", number) message))
IsSaid route message number Stored (Here text) = (delivery : List ℕ) × IsSettledBy message delivery × (text.items ≡ written (settling_frame number delivery))
IsSaid route message number _ _ = ⊥

-- how far the message is after that
abbrev pub stage_after : Saying → Stage
stage_after (Here text) = Settling
stage_after (There text) = Sent

-- the first message is moved on by this
abbrev pub Says : Route → Moves → Moves → Saying → Type 0
Says route before after saying = (message : Frame) × IsFirst message before × IsSaid route message (number_of before) before.stage saying
    × (after ≡ record before { stage = stage_after saying })

-- a RECEIPT is owed
abbrev pub is_owed : Stage → Bool
is_owed Sent = true
is_owed Settling = true
is_owed _ = false

-- nothing can be said before something is heard
abbrev pub IsSilent : Moves → Type 0
IsSilent moves = (moves.waiting ≡ []) ⊎ (is_owed moves.stage ≡ true)

-- a message came, which waits last if it was there when it began; or the RECEIPT of the one that was settled, which is moved
abbrev pub HearsHere : Frame → Moves → Moves → Type 0
HearsHere frame before after =
    ((frame.verb ≡ verbs.Message) × IsEarly before.bound frame × (after ≡ record before { waiting = before.waiting ++ frame ∷ [] }))
    ⊎ ((frame.verb ≡ verbs.Message) × IsLater before.bound frame × (after ≡ record before { is_over = true }))
    ⊎ ((before.stage ≡ Settling) × IsReceiptOf (number_of before) frame × (message : Frame) × (more : List Frame) × (before.waiting ≡ message ∷ more)
    × (after ≡ record before { waiting = more; stage = Free; moved = before.moved + 1 }))

-- the RECEIPT of the message that was sent to the other server, which has it now
abbrev pub HearsThere : Frame → Moves → Moves → Type 0
HearsThere frame before after = (before.stage ≡ Sent) × IsReceiptOf (number_of before) frame × (after ≡ record before { stage = Stored })
