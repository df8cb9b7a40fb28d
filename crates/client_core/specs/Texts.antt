-- What is told of a conversation that was not finished.
use Rattle.std.specs.Prelude.{Bool, List, [], ℕ, ◌++◌, ◌==◌, ◌&&◌, ◌||◌, codes, cond, false, nat_eq, nat_lt, true}
use Rattle.std.specs.List.{starts_with}
use Rattle.std.specs.Fmt.{decimal}
use Rattle.frame_core.specs.Verbs.{name_of}
use Rattle.client_core.specs.declared.fault.Cause.{Cause}
use Rattle.client_core.specs.declared.fault.Cause.TheVariants.{Unserved, NoHost, Unreached, Late, Silent, Status, NotWebSocket, Closed, Ended, Error, Other, NotStomp, Unwritable, Memory, System, Quiet}
use Rattle.client_core.specs.declared.fault.Cause.TheVariants as causes
use Rattle.client_core.specs.declared.fault.ClientFault.{ClientFault}
use Rattle.client_core.specs.declared.fault.Step.{Step}
use Rattle.client_core.specs.declared.fault.Step.TheVariants.{Connection, Handshake, Connected, Receipt, Message, Output, Farewell, Close}

-- what did not come
abbrev pub step_text : Step → List ℕ
step_text Connection = codes "no connection: "
step_text Handshake = codes "no handshake: "
step_text Connected = codes "no CONNECTED: "
step_text Receipt = codes "no RECEIPT: "
step_text Message = codes "no more messages: "
step_text Output = []
step_text Farewell = codes "no RECEIPT of the DISCONNECT: "
step_text Close = codes "no close: "

-- why it did not come
abbrev pub cause_text : Cause → List ℕ
cause_text Unserved = codes "nobody listens there"
cause_text NoHost = codes "there is no such host"
cause_text Unreached = codes "no network leads there"
cause_text Silent = codes "nothing came for 90 s"
cause_text Late = codes "no answer within 5 s"
cause_text (Status status) = codes "HTTP status " ++ decimal status
cause_text NotWebSocket = codes "what came is no WebSocket"
cause_text (Closed code) = codes "closed with " ++ decimal code
cause_text Ended = codes "the connection has ended"
cause_text (Error text) = codes "ERROR: " ++ text
cause_text (Other verb) = name_of verb ++ codes " came"
cause_text NotStomp = codes "what came is no STOMP"
cause_text Unwritable = codes "no frame can have such a header"
cause_text causes.Output = codes "input or output failed"
cause_text Memory = codes "out of memory"
cause_text System = codes "the system refuses it"
cause_text Quiet = codes "none came within --timeout"

abbrev pub client_text : ClientFault → List ℕ
client_text fault = step_text fault.step ++ cause_text fault.cause

-- the server has all the clients that it takes: it answers the handshake with 503 (RFC 9110, 15.6.4)
abbrev pub is_of_full : Step → Cause → Bool
is_of_full Handshake (Status status) = status == 503
is_of_full _ _ = false

-- a message was sent, and no answer says whether it was taken: an ERROR says that it was not
abbrev pub is_unknown : Step → Cause → Bool
is_unknown Receipt (Error text) = false
is_unknown Receipt Unwritable = false
is_unknown Receipt _ = true
is_unknown _ _ = false

-- the connection was taken, and ended before the handshake was answered
abbrev pub is_unanswered : Step → Cause → Bool
is_unanswered Handshake Ended = true
is_unanswered _ _ = false

-- the server is alive, as one that is full is: it has no more places for those whom it would tell that either
abbrev pub is_crowded : Step → Cause → Bool
is_crowded step cause = is_of_full step cause || is_unanswered step cause

-- the status of a ping that was not answered: a server that is full is alive
abbrev pub ping_status : ClientFault → ℕ
ping_status fault = cond (is_crowded fault.step fault.cause) 3 1

-- the server refuses a subscription since another session has its durable name (docs/PROTOCOL.md, "Codes": E14)
abbrev pub is_of_held : Step → Cause → Bool
is_of_held Message (Error text) = starts_with nat_eq text (codes "E14 ")
is_of_held Farewell (Error text) = starts_with nat_eq text (codes "E14 ")
is_of_held _ _ = false

-- that may pass: the other session's client may be gone, which a server finds within 90 seconds
abbrev pub may_pass : ℕ → ClientFault → Bool
may_pass waited fault = is_of_held fault.step fault.cause && nat_lt waited 90

-- no message came for as long as was allowed
abbrev pub is_quiet : Cause → Bool
is_quiet Quiet = true
is_quiet _ = false

-- the status of a conversation that was not finished: its own if no message came, or if the server is full
abbrev pub call_status : ClientFault → ℕ
call_status fault = cond (is_quiet fault.cause) 4 (cond (is_of_full fault.step fault.cause) 3 1)

-- The server or the connection is gone, and may be there again: nobody listens or answers in time, no network leads to the host or to
-- who knows its name, the connection has ended, or it was
-- closed since the server goes away, starts again or has no time (RFC 6455, section 7.4.1, and its registry: 1001, 1012, 1013); or what
-- stands before the server does not reach it (RFC 9110, 15.6.3 to 15.6.5).
abbrev pub is_gone : Cause → Bool
is_gone Unserved = true
is_gone NoHost = true
is_gone Unreached = true
is_gone Late = true
is_gone Ended = true
is_gone (Closed code) = code == 1001 || code == 1012 || code == 1013
is_gone (Status status) = status == 502 || status == 503 || status == 504
is_gone _ = false

-- the step is of a session that has begun
abbrev pub is_of_session : Step → Bool
is_of_session Message = true
is_of_session Output = true
is_of_session Farewell = true
is_of_session Close = true
is_of_session _ = false

-- the step comes before a message, so nothing is lost if it is done again
abbrev pub is_before_message : Step → Bool
is_before_message Connection = true
is_before_message Handshake = true
is_before_message Connected = true
is_before_message Message = true
is_before_message _ = false
