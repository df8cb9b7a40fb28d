use Rattle.std.specs.Prelude.{List, [], ◌∷◌, ◌++◌, ℕ, Option, Some, None, codes, length}
use Rattle.std.specs.Fmt.{decimal}
use Rattle.frame_core.specs.declared.frame.Frame.{Frame}
use Rattle.frame_core.specs.declared.frame.Verb.TheVariants as verbs
use Rattle.command_core.specs.declared.fault.Fault.{Fault}
use Rattle.command_core.specs.Faults.{text_of}
use Rattle.command_core.specs.Sendings.{SendingValue}

-- STOMP 1.2, "CONNECTED": the version, the session's number in decimal, and no heart-beats
abbrev pub connected : ℕ → Frame
connected session = record {
  verb = verbs.Connected;
  headers = (codes "version", codes "1.2") ∷ (codes "session", decimal session) ∷ (codes "heart-beat", codes "0,0") ∷ [];
  body = [];
}

-- the header that names the frame that asked for a receipt, if one did
abbrev pub receipt_header : Option (List ℕ) → List (List ℕ × List ℕ)
receipt_header None = []
receipt_header (Some id) = (codes "receipt-id", id) ∷ []

-- STOMP 1.2, "RECEIPT"
abbrev pub receipt_frame : List ℕ → Frame
receipt_frame id = record { verb = verbs.Receipt; headers = receipt_header (Some id); body = [] }

-- STOMP 1.2, "ERROR": what is wrong, and which frame was, if it asked for a receipt
abbrev pub error_frame : Fault → Option (List ℕ) → Frame
error_frame fault receipt = record { verb = verbs.Error; headers = (codes "message", text_of fault) ∷ receipt_header receipt; body = [] }

-- the header that names a delivery for its acknowledgement, if one is expected
abbrev pub ack_header : Option ℕ → List (List ℕ × List ℕ)
ack_header None = []
ack_header (Some delivery) = (codes "ack", decimal delivery) ∷ []

-- the name of a message: the number of the command that sent it, and its place there
abbrev pub message_id : ℕ → ℕ → List ℕ
message_id command place = decimal command ++ 46 ∷ decimal place

-- the broker's own headers of a MESSAGE
abbrev pub own_headers : List ℕ → List ℕ → Option ℕ → SendingValue → List (List ℕ × List ℕ)
own_headers subscription id delivery sending =
    (codes "subscription", subscription) ∷ (codes "message-id", id) ∷ (codes "destination", sending.destination) ∷ (ack_header delivery ++ (codes "content-length", decimal (length sending.body)) ∷ [])

-- STOMP 1.2, "MESSAGE": what was sent, to a subscription, with the headers that the message keeps after the broker's own
abbrev pub message_frame : List ℕ → ℕ → ℕ → Option ℕ → SendingValue → Frame
message_frame subscription command place delivery sending = record {
  verb = verbs.Message;
  headers = own_headers subscription (message_id command place) delivery sending ++ sending.headers;
  body = sending.body;
}
