-- The frames that a client says.
use Rattle.std.specs.Prelude.{◌&&◌, List, [], ◌∷◌, ℕ, Bool, Option, None, Some, true, false, codes, cond, decimal, length, map, nat_eq}
use Rattle.std.specs.Borrow.{Bor}
use Rattle.std.specs.List.{starts_with}
use Rattle.frame_core.specs.declared.frame.Frame.{Frame}
use Rattle.frame_core.specs.declared.frame.Verb.TheVariants as verbs
use Rattle.frame_core.specs.Written.{written}
use Rattle.client_core.specs.declared.plan.Outgoing.{Outgoing}
use Rattle.client_core.specs.declared.plan.Plan.{Plan}
use Rattle.client_core.specs.declared.probe.Probe.{Probe}
use Rattle.client_core.specs.declared.probe.Probe.TheVariants.{Connect, Send}

-- a header that may be left out
abbrev pub header : List ℕ → Option (Bor (List ℕ)) → List (List ℕ × List ℕ)
header name None = []
header name (Some value) = (name, value.now) ∷ []

-- STOMP 1.2, "CONNECT or STOMP Frame", with the `client-id` of this broker's durable names
abbrev pub connect_frame : List ℕ → Option (Bor (List ℕ)) → Frame
connect_frame host client = record {
  verb = verbs.Connect;
  headers = (codes "accept-version", codes "1.2") ∷ (codes "host", host) ∷ header (codes "client-id") client;
  body = [];
}

-- headers as they are given
abbrev pub texts : List (Bor (List ℕ) × Bor (List ℕ)) → List (List ℕ × List ℕ)
texts given = map (λ h. (h.0.now, h.1.now)) given

-- STOMP 1.2, "SEND": to its destination, with that receipt, and then the further headers
abbrev pub asked_frame : List ℕ → Outgoing → Frame
asked_frame receipt m = record {
  verb = verbs.Send;
  headers = (codes "destination", m.destination.now) ∷ (codes "receipt", receipt) ∷ (codes "content-length", decimal (length m.body.now)) ∷ texts m.headers.now;
  body = m.body.now;
}

abbrev pub send_frame : Outgoing → Frame
send_frame m = asked_frame (codes "sent") m

-- that of a line, whose receipt is its number
abbrev pub line_frame : ℕ → Outgoing → Frame
line_frame number m = asked_frame (decimal number) m

abbrev pub is_unnamed : Option (Bor (List ℕ)) → Bool
is_unnamed None = true
is_unnamed (Some name) = false

-- a listener's own copies of a topic are there for nobody else
abbrev pub is_own : Plan → Bool
is_own plan = cond plan.settles false (is_unnamed plan.name && starts_with nat_eq plan.destination.now (codes "/topic/"))

-- STOMP 1.2, "SUBSCRIBE ack Header": what is not settled stays with the broker, unless it is the listener's own
abbrev pub mode_of : Plan → List ℕ
mode_of plan = cond (is_own plan) (codes "auto") (codes "client-individual")

-- STOMP 1.2, "SUBSCRIBE"
abbrev pub subscribe_frame : Plan → Frame
subscribe_frame plan = record {
  verb = verbs.Subscribe;
  headers = (codes "id", codes "heard") ∷ (codes "destination", plan.destination.now) ∷ (codes "ack", mode_of plan) ∷ header (codes "activemq.subscriptionName") plan.name;
  body = [];
}

-- STOMP 1.2, "UNSUBSCRIBE", as this broker gives up a durable name
abbrev pub forget_frame : List ℕ → Frame
forget_frame name = record {
  verb = verbs.Unsubscribe;
  headers = (codes "activemq.subscriptionName", name) ∷ (codes "receipt", codes "sent") ∷ [];
  body = [];
}

-- STOMP 1.2, "ACK"
abbrev pub ack_frame : List ℕ → Frame
ack_frame delivery = record { verb = verbs.Ack; headers = (codes "id", delivery) ∷ []; body = [] }

-- What is said for a message to be sent, and for a durable name to be given up, each once the one before is answered. How the session
-- ends after that changes nothing.
abbrev pub send_turns : List ℕ → Outgoing → List (Probe × List ℕ)
send_turns host message = (Connect, written (connect_frame host None)) ∷ (Send, written (send_frame message)) ∷ []

abbrev pub forget_turns : List ℕ → Bor (List ℕ) → List ℕ → List (Probe × List ℕ)
forget_turns host client name = (Connect, written (connect_frame host (Some client))) ∷ (Send, written (forget_frame name)) ∷ []
