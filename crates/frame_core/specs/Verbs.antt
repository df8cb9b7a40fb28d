use Rattle.std.specs.Prelude.{List, ℕ, Bool, true, false, codes}
use Rattle.frame_core.specs.declared.frame.Verb.{Verb}
use Rattle.frame_core.specs.declared.frame.Verb.TheVariants.{Connect, Stomp, Send, Subscribe, Unsubscribe, Ack, Nack, Begin, Commit, Abort, Disconnect, Connected, Message, Receipt, Error}

-- the command line of each command (STOMP 1.2, "Augmented BNF", client-command and server-command)
abbrev pub name_of : Verb → List ℕ
name_of Connect = codes "CONNECT"
name_of Stomp = codes "STOMP"
name_of Send = codes "SEND"
name_of Subscribe = codes "SUBSCRIBE"
name_of Unsubscribe = codes "UNSUBSCRIBE"
name_of Ack = codes "ACK"
name_of Nack = codes "NACK"
name_of Begin = codes "BEGIN"
name_of Commit = codes "COMMIT"
name_of Abort = codes "ABORT"
name_of Disconnect = codes "DISCONNECT"
name_of Connected = codes "CONNECTED"
name_of Message = codes "MESSAGE"
name_of Receipt = codes "RECEIPT"
name_of Error = codes "ERROR"

-- whether its headers stand as they are, with no escapes (STOMP 1.2, "Value Encoding"; STOMP stands for CONNECT)
abbrev pub is_raw : Verb → Bool
is_raw Connect = true
is_raw Stomp = true
is_raw Connected = true
is_raw _ = false

-- whether it may have a body (STOMP 1.2, "Frames and Headers": only SEND, MESSAGE and ERROR)
abbrev pub has_body : Verb → Bool
has_body Send = true
has_body Message = true
has_body Error = true
has_body _ = false
