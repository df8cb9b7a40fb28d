use Rattle.std.specs.Prelude.{List, [], ℕ, Option, Some, None, Result, Ok, Err, cond, codes, unwrap_or}
use Rattle.frame_core.specs.declared.frame.Frame.{Frame}
use Rattle.frame_core.specs.declared.frame.Verb.{Verb}
use Rattle.frame_core.specs.declared.frame.Verb.TheVariants as verbs
use Rattle.frame_core.specs.Writable.{first_of}
use Rattle.command_core.specs.declared.command.AckMode.{AckMode}
use Rattle.command_core.specs.declared.command.Op.{Op}
use Rattle.command_core.specs.declared.command.Op.TheVariants as ops
use Rattle.command_core.specs.declared.fault.Fault.{Fault}
use Rattle.command_core.specs.declared.fault.Fault.TheVariants.{BadDestination, BadHeaderValue, MissingHeader, UnexpectedFrame, UnknownCommand, UnsupportedVersion}
use Rattle.command_core.specs.declared.command.Member.{Member}
use Rattle.command_core.specs.declared.command.Member.TheVariants as members
use Rattle.command_core.specs.Destinations.{is_destination}
use Rattle.command_core.specs.Sendings.{kept_headers}
use Rattle.session_core.specs.declared.requests.Request.{Request}
use Rattle.session_core.specs.declared.requests.Request.TheVariants.{Ask, Join, Begin, Commit, Abort, Disconnect}
use Rattle.session_core.specs.ReadFrames.{delivery_of, durable_at, durable_of, mode_of, some_text}
use Rattle.session_core.specs.Versions.{offers}

-- what is asked for with a header that has to be there
abbrev pub with_header : Option (List ℕ) → (List ℕ → Result Request Fault) → Result Request Fault
with_header None asks = Err MissingHeader
with_header (Some text) asks = asks text

-- the transaction that a SEND, ACK or NACK belongs to
abbrev pub transaction_of : Frame → Option (List ℕ)
transaction_of frame = first_of (codes "transaction") frame.headers

-- what a CONNECT or STOMP asks for (STOMP 1.2, "CONNECT or STOMP Frame")
abbrev pub connects : Frame → Result Op Fault
connects frame =
    cond (offers (unwrap_or (first_of (codes "accept-version") frame.headers) []))
    (Ok (ops.Open (some_text (first_of (codes "client-id") frame.headers))))
    (Err UnsupportedVersion)

abbrev pub sends_to : Frame → List ℕ → Result Request Fault
sends_to frame to =
    cond (is_destination to)
    (Ok (Join (members.Send (record { destination = to; headers = kept_headers frame.headers; body = frame.body })) (transaction_of frame)))
    (Err BadDestination)

-- what a SEND asks for (STOMP 1.2, "SEND")
abbrev pub sends : Frame → Result Request Fault
sends frame = with_header (first_of (codes "destination") frame.headers) (sends_to frame)

abbrev pub subscribes_by : Frame → List ℕ → List ℕ → Option AckMode → Result Request Fault
subscribes_by frame to id None = Err BadHeaderValue
subscribes_by frame to id (Some mode) = Ok (Ask (ops.Subscribe id to mode (durable_at to frame)))

abbrev pub subscribes_to : Frame → List ℕ → List ℕ → Result Request Fault
subscribes_to frame to id = cond (is_destination to) (subscribes_by frame to id (mode_of (first_of (codes "ack") frame.headers))) (Err BadDestination)

-- what a SUBSCRIBE asks for (STOMP 1.2, "SUBSCRIBE")
abbrev pub subscribes : Frame → Result Request Fault
subscribes frame = with_header (first_of (codes "destination") frame.headers) (λ to. with_header (first_of (codes "id") frame.headers) (subscribes_to frame to))

-- a subscription ends by its id, a durable one by its name: one of them has to be there
abbrev pub unsubscribes_by : Option (List ℕ) → Option (List ℕ) → Result Request Fault
unsubscribes_by None None = Err MissingHeader
unsubscribes_by id durable = Ok (Ask (ops.Unsubscribe id durable))

-- what an UNSUBSCRIBE asks for (STOMP 1.2, "UNSUBSCRIBE")
abbrev pub unsubscribes : Frame → Result Request Fault
unsubscribes frame = unsubscribes_by (first_of (codes "id") frame.headers) (durable_of frame)

abbrev pub joins : (ℕ → Member) → Result ℕ Fault → Option (List ℕ) → Result Request Fault
joins member (Ok delivery) transaction = Ok (Join (member delivery) transaction)
joins member (Err fault) transaction = Err fault

-- what an ACK asks for (STOMP 1.2, "ACK")
abbrev pub acks : Frame → Result Request Fault
acks frame = joins members.Ack (delivery_of frame) (transaction_of frame)

-- what a NACK asks for (STOMP 1.2, "NACK")
abbrev pub nacks : Frame → Result Request Fault
nacks frame = joins members.Nack (delivery_of frame) (transaction_of frame)

-- what a BEGIN asks for (STOMP 1.2, "BEGIN")
abbrev pub begins : Frame → Result Request Fault
begins frame = with_header (transaction_of frame) (λ name. Ok (Begin name))

-- what a COMMIT asks for (STOMP 1.2, "COMMIT")
abbrev pub commits : Frame → Result Request Fault
commits frame = with_header (transaction_of frame) (λ name. Ok (Commit name))

-- what an ABORT asks for (STOMP 1.2, "ABORT")
abbrev pub aborts : Frame → Result Request Fault
aborts frame = with_header (transaction_of frame) (λ name. Ok (Abort name))

-- What a frame of a session that isn't connected asks for, or why it is refused. It has to be a CONNECT or STOMP, and a
-- server's command is no client's, whenever it comes (STOMP 1.2, "Connecting" and "Server Frames").
abbrev pub first_asked : Verb → Frame → Result Op Fault
first_asked verbs.Connect frame = connects frame
first_asked verbs.Stomp frame = connects frame
first_asked verbs.Connected frame = Err UnknownCommand
first_asked verbs.Message frame = Err UnknownCommand
first_asked verbs.Receipt frame = Err UnknownCommand
first_asked verbs.Error frame = Err UnknownCommand
first_asked _ frame = Err UnexpectedFrame

abbrev pub asked_first : Frame → Result Op Fault
asked_first frame = first_asked frame.verb frame

-- What a frame of a connected session asks for, or why it is refused (STOMP 1.2, "Client Frames").
abbrev pub asked_by : Verb → Frame → Result Request Fault
asked_by verbs.Connect frame = Err UnexpectedFrame
asked_by verbs.Stomp frame = Err UnexpectedFrame
asked_by verbs.Send frame = sends frame
asked_by verbs.Subscribe frame = subscribes frame
asked_by verbs.Unsubscribe frame = unsubscribes frame
asked_by verbs.Ack frame = acks frame
asked_by verbs.Nack frame = nacks frame
asked_by verbs.Begin frame = begins frame
asked_by verbs.Commit frame = commits frame
asked_by verbs.Abort frame = aborts frame
asked_by verbs.Disconnect frame = Ok Disconnect
asked_by _ frame = Err UnknownCommand

abbrev pub asked : Frame → Result Request Fault
asked frame = asked_by frame.verb frame
