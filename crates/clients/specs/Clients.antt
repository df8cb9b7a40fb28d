-- What contracts see of a client, and what it is sent.
use Rattle.std.specs.Prelude.{◌≡◌, ◌⊎◌, ℕ, List, [], ◌∷◌, ◌++◌, Option, Some, None, map, option_map}
use Rattle.std.proofs.Common.{inl, inr}
use Rattle.std.specs.List.{AllByRecursion}
use Rattle.command_core.specs.Outs.{OutValue}
use Rattle.frame_core.specs.declared.frame.Frame.{Frame}
use Rattle.frame_core.specs.declared.frame.Verb.TheVariants as verbs
use Rattle.frame_core.specs.Written.{written}
use Rattle.outbox_core.specs.Boxes.{TakerValue}
use Rattle.clients.specs.Connections.{connection_of, unheard}
use Rattle.clients.specs.Progress.{number_in}
use Rattle.clients.specs.declared.relaying.Kept.{Kept}
use Rattle.clients.specs.declared.relaying.Kept.TheVariants as kept
use Rattle.clients.specs.declared.client.Client.{Client}

-- a connection that was not heard yet: nothing waits for the ring, and there is no outbox
pub record IsNew {B : Type 0} (limit : ℕ) (client : Client B) : Type 0 where
  pub connection : (connection_of client) ≡ unheard limit
  pub waiting : client.waiting ≡ None
  pub opening : client.opening ≡ None
  pub outbox : client.outbox ≡ None
  pub kept : client.kept ≡ kept.Nothing

-- what stands beside its connection stays: the entry that waits, its box, its outbox, and what is kept
abbrev pub StaysBeside : {B : Type 0} → Client B → Client B → Type 0
StaysBeside was is = (is.waiting ≡ was.waiting) × (is.opening ≡ was.opening) × (is.outbox ≡ was.outbox) × (is.kept ≡ was.kept)

-- the number of a client's session
abbrev pub number_at : {B : Type 0} → Client B → Option ℕ
number_at client = number_in client.progress

-- what was taken out of an outbox, if there is one
abbrev pub taken_of : Option TakerValue → List OutValue
taken_of None = []
taken_of (Some taker) = taker.taken

-- the output that was taken and not sent
abbrev pub kept_of : Kept → List OutValue
kept_of kept.Nothing = []
kept_of (kept.Waits out) = out ∷ []
kept_of (kept.Unsent out) = out ∷ []

-- What a client has taken out of its outbox, what it keeps of that, and what its link tells that it sent.
pub record Passed : Type 0 where
  pub taken : List OutValue
  pub kept : List OutValue
  pub sent : Option (List (List ℕ))

abbrev pub passed : {B L : Type 0} → (L → Option (List (List ℕ))) → Client B → L → Passed
passed sent client link = record { taken = taken_of client.outbox; kept = kept_of client.kept; sent = sent link }

-- a message for a client: an ERROR that doesn't wait for the broker, or an output's frame
abbrev pub Message : Type 0
Message = Frame ⊎ OutValue

abbrev pub bytes_of : Message → List ℕ
bytes_of (inl frame) = written frame
bytes_of (inr out) = written out.frame

abbrev pub outs_of : List Message → List OutValue
outs_of [] = []
outs_of (inl frame ∷ messages) = outs_of messages
outs_of (inr out ∷ messages) = out ∷ outs_of messages

abbrev pub frames_of : List Message → List Frame
frames_of [] = []
frames_of (inl frame ∷ messages) = frame ∷ frames_of messages
frames_of (inr out ∷ messages) = frames_of messages

-- it is for the client of the session of that number
abbrev pub IsOwn : Option ℕ → Message → Type 0
IsOwn number (inl frame) = frame.verb ≡ verbs.Error
IsOwn number (inr out) = number ≡ Some out.session

-- The link was sent these messages, each for its own client. The frames that don't wait for the broker are these, in their order. The
-- outputs are, in theirs, the one that was kept and those that its own outbox gave. What was not sent of these is kept.
pub record Passes (number : Option ℕ) (frames : List Frame) (old new : Passed) : Type 0 where
  pub messages : List Message
  pub got : List OutValue
  pub told : new.sent ≡ option_map (λ sent. sent ++ map bytes_of messages) old.sent
  pub own : AllByRecursion (IsOwn number) messages
  pub frames_are : frames_of messages ≡ frames
  pub taken : new.taken ≡ old.taken ++ got
  pub whole : old.kept ++ got ≡ outs_of messages ++ new.kept

-- the taking end of that box
abbrev pub IsTakerOf : TakerValue → Option TakerValue → Type 0
IsTakerOf t None = ⊥
IsTakerOf t (Some taker) = taker.box ≡ t.box

-- The client was sent only messages of its own, and of frames that don't wait for the broker these. A session's number stays, and so
-- does its outbox, once there is one.
pub record Served {B L : Type 0} (sent : L → Option (List (List ℕ))) (frames : List Frame) (was : Client B) (before : L) (is : Client B) (after : L) : Type 0 where
  pub stays : (n : ℕ) → number_at was ≡ Some n → number_at is ≡ Some n
  pub one_box : (t : TakerValue) → was.outbox ≡ Some t → IsTakerOf t is.outbox
  pub passes : Passes (number_at is) frames (passed sent was before) (passed sent is after)

-- Nothing was sent to the client: a session's number and its outbox stay, and so does what is kept.
pub record Stays {B : Type 0} (was is : Client B) : Type 0 where
  pub stays : (n : ℕ) → number_at was ≡ Some n → number_at is ≡ Some n
  pub one_box : (t : TakerValue) → was.outbox ≡ Some t → IsTakerOf t is.outbox
  pub taken : taken_of is.outbox ≡ taken_of was.outbox
  pub kept : is.kept ≡ was.kept

-- The same, with its link: nothing was sent, and the conversation stands where it stood, with the entry that waits.
pub record Unserved {B L : Type 0} (told : L → Option (List (List ℕ))) (was : Client B) (before : L) (is : Client B) (after : L) : Type 0 where
  pub progress : is.progress ≡ was.progress
  pub waiting : is.waiting ≡ was.waiting
  pub opening : is.opening ≡ was.opening
  pub outbox : is.outbox ≡ was.outbox
  pub kept : is.kept ≡ was.kept
  pub sent : told after ≡ told before
