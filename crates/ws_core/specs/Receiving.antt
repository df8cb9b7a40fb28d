-- What one read of a link gives.
use Rattle.std.specs.Prelude.{◌≡◌, ◌≢◌, ◌⊎◌, ◌++◌, ◌<◌, ◌≤◌, ◌+◌, ℕ, List, [], Bool, false, Option, None, Some, Err, cond, length, option_map, ⊤}
use Rattle.std.specs.Io.KnownBytes.{Consumes}
use Rattle.tungstenite.specs.CloseCode.{close_code_of}
use Rattle.tungstenite.specs.Connection.{Connection, close_step, read_step}
use Rattle.tungstenite.specs.Content.{Content, text, binary, ping, pong, close}
use Rattle.tungstenite.specs.Failure.{of_frame}
use Rattle.tungstenite.specs.Socket.{Socket, Run, Runs, EndsWith, Flushed, Quiet, Writes}
use Rattle.tungstenite.specs.Socket.{Reads as ReadsSocket}
use Rattle.tungstenite.specs.declared.error.Error.{Error as SocketError}
use Rattle.websocket.specs.declared.error.Error.{Error}
use Rattle.websocket.specs.declared.protocol.frame.coding.CloseCode.{CloseCode}
use Rattle.ws_core.specs.Closing.{breach_code}
use Rattle.ws_core.specs.declared.link.Received.{Received}
use Rattle.ws_core.specs.declared.link.Received.TheVariants.{Bytes, Skipped, Nothing, Failed, Closed}
use Rattle.ws_core.specs.declared.link.LinkPhase.{LinkPhase}
use Rattle.ws_core.specs.declared.link.LinkPhase.TheVariants as phases
use Rattle.ws_core.specs.Holdings.{HoldingValue, settled, with_read}
use Rattle.ws_core.specs.Links.{HasFailed, Linked}
use Rattle.ws_core.specs.Pieces.{IsPiece}

-- the bytes that a read gave
abbrev pub given : Received → List ℕ
given (Bytes v) = v.items
given Skipped = []
given Nothing = []
given Failed = []
given Closed = []

-- so many bytes more were received, if the link tells them
abbrev pub with_received : Received → Option (List ℕ) → Option (List ℕ)
with_received got received = option_map (λ bytes. bytes ++ given got) received

-- The last of these frames ends a message of these bytes, which is text or binary (RFC 6455, section 5.6), and no other
-- ends one. The message is whole, in however many fragments it came (section 5.4).
abbrev pub Carries : Run → List ℕ → Type 0
Carries frames bytes = EndsWith frames (text bytes) ⊎ EndsWith frames (binary bytes)

-- No message ends with these frames, but for a ping or a pong with the last (sections 5.5.2 and 5.5.3).
abbrev pub CarriesNothing : Run → Type 0
CarriesNothing frames = Quiet frames ⊎ ((bytes : List ℕ) × (EndsWith frames (ping bytes) ⊎ EndsWith frames (pong bytes)))

-- the bytes, unless memory was refused
abbrev pub Holds : Received → List ℕ → Type 0
Holds (Bytes v) bytes = v.items ≡ bytes
Holds Skipped bytes = ⊥
Holds Nothing bytes = ⊥
Holds Failed bytes = ⊥
Holds Closed bytes = ⊤

-- a piece of these bytes was given, after which those are left, unless memory was refused
abbrev pub Feeds : List ℕ → List ℕ → Received → Type 0
Feeds bytes left (Bytes v) = IsPiece bytes v.items left
Feeds bytes left Skipped = ⊥
Feeds bytes left Nothing = ⊥
Feeds bytes left Failed = ⊥
Feeds bytes left Closed = ⊤

-- of a message that a read gave, the first piece is given, and all else as it is
abbrev pub Begins : Received → List ℕ → Received → Type 0
Begins (Bytes v) left got = Feeds v.items left got
Begins whole left got = (got ≡ whole) × (left ≡ [])

-- how far the link has come when it has given this
abbrev pub after : LinkPhase → Received → LinkPhase
after phase (Bytes v) = phase
after phase Skipped = phase
after phase Nothing = phase
after phase Failed = phases.Failed
after phase Closed = phases.Over

-- What came after a close was dropped, and this is how much that was in all: 16,777,216 bytes at most, or the link is over.
abbrev pub Counts : ℕ → ℕ → Received → Type 0
Counts old new (Bytes v) = ⊥
Counts old new Skipped = (old < new) × (new ≤ 16777216)
Counts old new Nothing = new ≡ old
Counts old new Failed = ⊥
Counts old new Closed = ⊤

-- what is counted after a read that came to this, by how many bytes the stream has given: what a peer that has failed was told was written too
abbrev pub counted_after : ℕ → Bool → Received → HoldingValue → HoldingValue
counted_after given held_up (Bytes v) h = with_read given (Bytes v) h
counted_after given held_up Skipped h = with_read given Skipped h
counted_after given held_up Nothing h = with_read given Nothing h
counted_after given held_up Failed h = settled held_up (with_read given Failed h)
counted_after given held_up Closed h = with_read given Closed h

-- How many bytes of a message were given that are kept with those that are left: all of them, or none if none is left.
abbrev pub KeepsFed : ℕ → List ℕ → Received → ℕ → Type 0
KeepsFed old left (Bytes v) new = (left ≢ [] → new ≡ old + length v.items) × (left ≡ [] → new ≡ 0)
KeepsFed old left Skipped new = new ≡ old
KeepsFed old left Nothing new = new ≡ old
KeepsFed old left Failed new = new ≡ old
KeepsFed old left Closed new = new ≡ old

module _ {S : Type 0} where
  -- These frames were read, one after the other, off the bytes that were there and those that the stream gave, and no byte after
  -- them is lost.
  pub record Reads (remaining : S → Option (List ℕ)) (old new : Socket S) (frames : Run) : Type 0 where
    pub got : List ℕ
    pub run : Runs old.conn (old.input ++ got) frames new.conn new.input
    pub stated : old.output ≡ [] → Consumes (remaining old.stream) (remaining new.stream) got

  -- A read of the socket failed, since the next frame breaks the protocol or a limit, after others that end no message. The bytes and
  -- the socket that it left are those of the library's read.
  pub record IsBreach (remaining : S → Option (List ℕ)) (old read : Socket S) (code : ℕ) : Type 0 where
    pub got : List ℕ
    pub frames : Run
    pub conn : Connection
    pub input : List ℕ
    pub run : Runs old.conn (old.input ++ got) frames conn input
    pub quiet : Quiet frames
    pub fault : Error
    pub next : read_step conn input ≡ Err fault
    pub code_is : breach_code (of_frame fault) ≡ Some code
    pub failed : ReadsSocket remaining old read (Err (of_frame fault))

  -- After a breach the close of its code was said (section 7.1.7), and nothing else.
  pub record Breaks (remaining contents : S → Option (List ℕ)) (old new : Socket S) : Type 0 where
    pub read : Socket S
    pub code : ℕ
    pub breach : IsBreach remaining old read code
    pub said : Writes contents read new (close_step read.conn (Some (close_code_of code, [])))

  -- The peer's close was read.
  pub record HearsClose (remaining : S → Option (List ℕ)) (old read : Socket S) : Type 0 where
    pub frames : Run
    pub frame : Option (CloseCode × List ℕ)
    pub reads : Reads remaining old read frames
    pub ends : EndsWith frames (close frame)

  -- A read failed, and the peer is not to blame: the stream failed or ended, or memory was refused. By the library's read no message came.
  abbrev pub Stops : (S → Option (List ℕ)) → Socket S → Socket S → Type 0
  Stops remaining old new = (fault : SocketError) × ReadsSocket remaining old new (Err fault) × (breach_code fault ≡ None)

  -- Its answer (section 5.5.1) is in the socket then, and went to the stream as far as that takes it.
  pub record Answers (remaining contents : S → Option (List ℕ)) (old new : Socket S) : Type 0 where
    pub read : Socket S
    pub heard : HearsClose remaining old read
    pub written : Flushed contents read new

  -- Why a link is over after a read.
  pub data Closes (remaining : S → Option (List ℕ)) (old new : Socket S) : Type 0 where
    -- the read failed
    stopped : Stops remaining old new → Closes remaining old new
    -- memory was refused for the message that came
    short : (frames : Run) (bytes : List ℕ) → Reads remaining old new frames → Carries frames bytes → Closes remaining old new
    -- the peer closed, or broke the protocol, and what was to be said to it could not be written
    unanswered : (read : Socket S) → HearsClose remaining old read → Closes remaining old new
    untold : (read : Socket S) (code : ℕ) → IsBreach remaining old read code → Closes remaining old new

  -- what a read of the socket gave
  abbrev pub Hears : (S → Option (List ℕ)) → (S → Option (List ℕ)) → Socket S → Socket S → Received → Type 0
  Hears remaining contents old new (Bytes v) = (frames : Run) × Reads remaining old new frames × Carries frames v.items
  Hears remaining contents old new Skipped = (frames : Run) × Reads remaining old new frames × CarriesNothing frames
  Hears remaining contents old new Nothing = (frames : Run) × Reads remaining old new frames × Quiet frames
  Hears remaining contents old new Failed = Breaks remaining contents old new ⊎ Answers remaining contents old new
  Hears remaining contents old new Closed = Closes remaining old new

  -- A link gives the next piece of a message that it has. Or else it reads, and gives the first piece of a message that came, or what
  -- else did.
  pub record Listens (remaining contents : S → Option (List ℕ)) (old new : Linked S) (got : Received) : Type 0 where
    pub next : old.unfed ≢ [] → Feeds old.unfed new.unfed got × (new.socket ≡ old.socket)
    pub first : old.unfed ≡ [] → (whole : Received) × Hears remaining contents old.socket new.socket whole × Begins whole new.unfed got

  -- what a read of the socket gave once the link was ended: no message's bytes
  abbrev pub Drops : (S → Option (List ℕ)) → Socket S → Socket S → Received → Type 0
  Drops remaining old new (Bytes v) = ⊥
  Drops remaining old new Skipped = (frames : Run) × Reads remaining old new frames
  Drops remaining old new Nothing = (frames : Run) × Reads remaining old new frames × Quiet frames
  Drops remaining old new Failed = HearsClose remaining old new ⊎ ((code : ℕ) × IsBreach remaining old new code)
  Drops remaining old new Closed = Stops remaining old new

  -- What a read of a link does that has said its last. Some of that went to the stream, which was shut once nothing waited any more.
  -- What came was dropped without a look at it.
  pub record Leaves (contents : S → Option (List ℕ)) (old new : Linked S) (got : Received) : Type 0 where
    pub flushed : got ≢ Closed → Flushed contents old.socket new.socket
    pub counts : Counts old.dropped new.dropped got
    pub phase : got ≢ Closed → new.phase ≡ cond new.held_up phases.Failed phases.Shut
    pub over : got ≡ Closed → new.phase ≡ phases.Over

  -- One read of a link. One that is over says so and stays as it is.
  pub record Receives (remaining contents : S → Option (List ℕ)) (old new : Linked S) (got : Received) : Type 0 where
    pub listens : old.phase ≡ phases.Open → Listens remaining contents old new got
    pub drops : old.phase ≡ phases.Closing → Drops remaining old.socket new.socket got
    pub leaves : HasFailed old.phase → Leaves contents old new got
    pub phase : (HasFailed old.phase → ⊥) → new.phase ≡ after old.phase got
    pub dropped : (HasFailed old.phase → ⊥) → new.dropped ≡ old.dropped
    pub held_up : (HasFailed old.phase → ⊥) → got ≢ Failed → new.held_up ≡ old.held_up
    pub rest : old.phase ≡ phases.Open → got ≡ Failed → new.held_up ≡ false → new.socket.output ≡ []
    pub stays : old.phase ≡ phases.Over → (got ≡ Closed) × (new ≡ old)

  -- What a read does to what a link counts, by how far it had come.
  pub record CountsRead (count_given : S → ℕ) (old new : Linked S) (got : Received) : Type 0 where
    pub reads : (old.phase ≡ phases.Open) ⊎ (old.phase ≡ phases.Closing) → new.holding ≡ counted_after (count_given new.socket.stream) new.held_up got old.holding
    pub leaves : HasFailed old.phase → got ≢ Closed → new.holding ≡ settled new.held_up old.holding
    pub fed : old.phase ≡ phases.Open → KeepsFed old.fed new.unfed got new.fed
    pub stays : old.phase ≢ phases.Open → (new.unfed ≡ old.unfed) × (new.fed ≡ old.fed)
