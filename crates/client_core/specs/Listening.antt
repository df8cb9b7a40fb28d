-- The conversation of one who listens.
use Rattle.std.specs.Prelude.{◌≡◌, ◌⊎◌, ◌+◌, List, [], ◌∷◌, ◌++◌, ℕ, Bool, Option, true, false, length}
use Rattle.std.specs.Borrow.{Bor}
use Rattle.std.specs.List.{AllByRecursion}
use Rattle.frame_core.specs.declared.frame.Frame.{Frame}
use Rattle.frame_core.specs.declared.frame.Verb.TheVariants.{Message}
use Rattle.frame_core.specs.Streams.{Frames, Reads}
use Rattle.frame_core.specs.Written.{written}
use Rattle.client_core.specs.Answers.{IsAnswer, said}
use Rattle.client_core.specs.Deeds.{AreDone}
use Rattle.client_core.specs.Requests.{connect_frame, subscribe_frame}
use Rattle.client_core.specs.Talks.{Adds, Answers, Heard, Said, Spoken, all_of, turn}
use Rattle.client_core.specs.declared.plan.Plan.{Plan}
use Rattle.client_core.specs.declared.probe.Probe.TheVariants.{Connect, Disconnect}

-- The bytes are these messages, which are shown, and settled if the plan has it; then other frames, which are left; and the beginning
-- of one more.
abbrev pub EndsIn : Plan → List ℕ → List Frame → List Frame → List Spoken → List ℕ → Type 0
EndsIn plan bytes messages others acts rest = Reads bytes (messages ++ others) rest × AreDone plan messages acts

-- Pieces are heard, of which these are the last first. All messages that end in one are shown before the next is heard; of the last
-- one's frames, others may be left.
abbrev pub AreShown : Plan → List (List ℕ) → List Frame → List Frame → List Spoken → List ℕ → Type 0
AreShown plan [] messages others talk rest = (messages ≡ []) × (others ≡ []) × (talk ≡ []) × (rest ≡ [])
AreShown plan (piece ∷ pieces) messages others talk rest =
    (earlier : List Frame) × (these : List Frame) × (before : List Spoken) × (acts : List Spoken) × (unread : List ℕ)
    × AreShown plan pieces earlier [] before unread × EndsIn plan (unread ++ piece) these others acts rest
    × (messages ≡ earlier ++ these) × (talk ≡ before ++ Heard piece ∷ acts)

-- so are just as many messages as the plan has
abbrev pub AllAreShown : Plan → List Spoken → List ℕ → Type 0
AllAreShown plan talk rest =
    (pieces : List (List ℕ)) × (messages : List Frame) × (others : List Frame) × AreShown plan pieces messages others talk rest × (length messages ≡ plan.count)

-- so many are to come after these, and frames are left only if none is
abbrev pub AreLeft : ℕ → ℕ → List Frame → List Frame → Type 0
AreLeft before after messages others = (after + length messages ≡ before) × ((after ≡ 0) ⊎ (others ≡ []))

abbrev pub AreMessages : List Frame → Type 0
AreMessages frames = AllByRecursion (λ frame. frame.verb ≡ Message) frames

-- among these frames the RECEIPT of the DISCONNECT comes after messages alone; or messages alone have come
abbrev pub AreLast : List Frame → Bool → Type 0
AreLast frames true = (late : List Frame) × (receipt : Frame) × (more : List Frame) × AreMessages late × IsAnswer Disconnect receipt × (frames ≡ (late ++ receipt ∷ []) ++ more)
AreLast frames false = AreMessages frames

-- After messages that came too late to be shown the bytes have the RECEIPT of the DISCONNECT (STOMP 1.2, "DISCONNECT", "RECEIPT").
abbrev pub EndsWell : List ℕ → Type 0
EndsWell bytes = (late : List Frame) × (receipt : Frame) × (more : List ℕ) × AreMessages late × IsAnswer Disconnect receipt × Frames bytes (late ++ receipt ∷ []) more

-- so it is, or the bytes are such messages, and the beginning of one more
abbrev pub MayEnd : List ℕ → List ℕ → Bool → Type 0
MayEnd bytes rest true = EndsWell bytes
MayEnd bytes rest false = (late : List Frame) × AreMessages late × Frames bytes late rest

-- SUBSCRIBE is said. Just as many messages as the plan has are shown as they come, in their order, and each is settled once it is shown
-- if the plan has it. After the last DISCONNECT is said, and its RECEIPT heard (STOMP 1.2, "SUBSCRIBE", "MESSAGE", "ACK", "DISCONNECT").
pub record ListensIn (plan : Plan) (talk : List Spoken) : Type 0 where
  pub listening : List Spoken
  pub rest : List ℕ
  pub last : List (List ℕ)
  pub whole : talk ≡ Said (written (subscribe_frame plan)) ∷ (listening ++ turn (said Disconnect) last)
  pub shown : AllAreShown plan listening rest
  pub ends : EndsWell (rest ++ all_of last)

-- the whole conversation: before that CONNECT is said, and CONNECTED heard (STOMP 1.2, "CONNECT or STOMP Frame", "CONNECTED Frame")
abbrev pub Listens : List ℕ → Option (Bor (List ℕ)) → Plan → Option (List Spoken) → Option (List Spoken) → Type 0
Listens host client plan before after =
    (between : Option (List Spoken)) × (talk : List Spoken) × Answers Connect (written (connect_frame host client)) before between × ListensIn plan talk × Adds talk between after
