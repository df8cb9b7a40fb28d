-- What a client that asks for a WebSocket is answered (RFC 6455, section 4.2).
use Rattle.std.specs.Prelude.{◌≡◌, ◌⊎◌, ◌<◌, ◌==◌, ◌||◌, ◌++◌, [], ℕ, List, Bool, true, false, Option, Result, Ok, Err, cond, codes, length, map, nat_eq, nat_lt, not, bytes_eq}
use Rattle.std.specs.Fmt.{decimal}
use Rattle.std.specs.Io.KnownBytes.{Appends, Consumes}
use Rattle.std.specs.List.{list_all, list_any, starts_with}
use Rattle.httparse.specs.Grammar.{RequestHead, ReadsRequest, NeverHasRequest}
use Rattle.httparse.specs.Spans.{RequestExceeds, name_and_value}
use Rattle.websocket.specs.Handshake.{Answers, requested_key}
use Rattle.websocket.specs.Headers.{Fields, crlf, field_line}
use Rattle.websocket.specs.declared.handshake.failure.HandshakeError.{HandshakeError}
use Rattle.websocket.specs.declared.handshake.failure.HandshakeError.TheVariants.{WrongHttpMethod, WrongHttpVersion, MissingConnectionUpgradeHeader, MissingUpgradeWebSocketHeader, MissingSecWebSocketVersionHeader}
use Rattle.ws_core.specs.declared.handshake.Answer.{Answer}
use Rattle.ws_core.specs.declared.handshake.Answer.TheVariants.{Accept, Refuse}
use Rattle.ws_core.specs.declared.handshake.Choice.{Choice}
use Rattle.ws_core.specs.declared.handshake.Choice.TheVariants as choices
use Rattle.ws_core.specs.declared.refusal.Refusal.{Refusal}
use Rattle.ws_core.specs.declared.refusal.Refusal.TheVariants.{Malformed, OtherProtocol, Foreign, Method, NoUpgrade, Version, TooLarge, Full}
use Rattle.ws_core.specs.Fields.{values}
use Rattle.ws_core.specs.Offers.{choice_of}

-- each Origin of the request is one of those that are served (section 4.2.2; RFC 6454, section 7); if none is named, all are
abbrev pub is_let_in : List (List ℕ) → Fields → Bool
is_let_in origins fields =
    length origins == 0 || list_all (λ origin. list_any (λ served. bytes_eq served origin) origins) (values fields (codes "Origin"))

-- that field stands in it more than once
abbrev pub is_repeated : Fields → List ℕ → Bool
is_repeated fields name = nat_lt 1 (length (values fields name))

-- it has another number of Hosts than one (RFC 9112, section 3.2), says that a body follows in pieces, or repeats its key or its
-- version (sections 11.3.1 and 11.3.5)
abbrev pub is_malformed : Fields → Bool
is_malformed fields =
    not (length (values fields (codes "Host")) == 1) || not (length (values fields (codes "Transfer-Encoding")) == 0)
    || is_repeated fields (codes "Sec-WebSocket-Key") || is_repeated fields (codes "Sec-WebSocket-Version")

-- The refusal that says what the request lacks. It has another method than GET, or another version than 13. Or it has no Upgrade
-- to a WebSocket, as HTTP/1.0 never has (RFC 9110, section 7.8). Or its key is missing or is none.
abbrev pub refusal_of : HandshakeError → Refusal
refusal_of WrongHttpMethod = Method
refusal_of WrongHttpVersion = NoUpgrade
refusal_of MissingConnectionUpgradeHeader = NoUpgrade
refusal_of MissingUpgradeWebSocketHeader = NoUpgrade
refusal_of MissingSecWebSocketVersionHeader = Version
refusal_of _ = Malformed

-- a client that offers only other subprotocols is refused
abbrev pub admitted : List ℕ → Choice → Answer
admitted accept_key choices.Stomp = Accept accept_key true
admitted accept_key choices.Nothing = Accept accept_key false
admitted accept_key choices.Refuse = Refuse OtherProtocol

-- the answer if the request's key is answered so, or lacks that
abbrev pub answer_by : List (List ℕ) → Fields → Result (List ℕ) HandshakeError → Answer
answer_by origins fields (Err lacking) = Refuse (refusal_of lacking)
answer_by origins fields (Ok accept_key) =
    cond (is_let_in origins fields) (admitted accept_key (choice_of (values fields (codes "Sec-WebSocket-Protocol")))) (Refuse Foreign)

-- The answer to a request with this method, minor version of HTTP and fields. What is malformed is told first, then what makes it
-- none for a WebSocket (section 4.2.1), then the origin, and last the subprotocols.
abbrev pub IsAnswer : List (List ℕ) → List ℕ → ℕ → Fields → Answer → Type 0
IsAnswer origins method minor fields answer =
    (asked : Result (List ℕ) HandshakeError) × Answers asked (requested_key method minor fields)
    × (answer ≡ cond (is_malformed fields) (Refuse Malformed) (answer_by origins fields asked))

-- no client is accepted that sends more before it was accepted (section 4.1)
abbrev pub as_refusal : Answer → Answer
as_refusal (Accept accept_key has_stomp) = Refuse Malformed
as_refusal (Refuse refusal) = Refuse refusal

-- the bytes begin with a whole head, after which these stand, and that is answered so
pub record IsHead (origins : List (List ℕ)) (bytes : List ℕ) (answer : Answer) : Type 0 where
  pub head : RequestHead
  pub more : List ℕ
  pub reads : ReadsRequest bytes head more
  pub given : Answer
  pub answered : IsAnswer origins head.method head.minor (map name_and_value head.fields) given
  pub is : answer ≡ cond (length more == 0) given (as_refusal given)

-- a head of more bytes or fields than are read
abbrev pub IsTooLarge : List ℕ → Type 0
IsTooLarge bytes = (16384 < length bytes) ⊎ RequestExceeds 124 bytes

-- what is answered to these bytes of a client
abbrev pub IsAnswerTo : List (List ℕ) → List ℕ → Answer → Type 0
IsAnswerTo origins bytes answer =
    IsHead origins bytes answer ⊎ ((answer ≡ Refuse Malformed) × NeverHasRequest bytes) ⊎ ((answer ≡ Refuse TooLarge) × IsTooLarge bytes)

-- what a server that takes no more clients answers instead of this (RFC 9110, section 15.6.4)
abbrev pub as_full : Answer → Answer
as_full (Accept accept_key has_stomp) = Refuse Full
as_full (Refuse refusal) = Refuse refusal

-- the status of a refusal, and its reason (RFC 9110, sections 15.5 and 15.6.4; RFC 6585, section 5)
abbrev pub status_line : Refusal → List ℕ
status_line Malformed = codes "400 Bad Request"
status_line OtherProtocol = codes "400 Bad Request"
status_line Foreign = codes "403 Forbidden"
status_line Method = codes "405 Method Not Allowed"
status_line NoUpgrade = codes "426 Upgrade Required"
status_line Version = codes "426 Upgrade Required"
status_line TooLarge = codes "431 Request Header Fields Too Large"
status_line Full = codes "503 Service Unavailable"

-- What it has to say beside that: the methods that are allowed, what to upgrade to, and by which version, or in how many seconds
-- to ask again. (RFC 9110, sections 15.5.6, 15.5.22 and 10.2.3; RFC 6455, section 4.4.) The connection is closed after it.
abbrev pub further_fields : Refusal → List ℕ
further_fields Malformed = codes "Connection: close\r\n"
further_fields OtherProtocol = codes "Connection: close\r\n"
further_fields Foreign = codes "Connection: close\r\n"
further_fields Method = codes "Connection: close\r\nAllow: GET\r\n"
further_fields NoUpgrade = codes "Connection: close, Upgrade\r\nUpgrade: websocket\r\nSec-WebSocket-Version: 13\r\n"
further_fields Version = codes "Connection: close, Upgrade\r\nUpgrade: websocket\r\nSec-WebSocket-Version: 13\r\n"
further_fields TooLarge = codes "Connection: close\r\n"
further_fields Full = codes "Connection: close\r\nRetry-After: 10\r\n"

-- its text
abbrev pub body_of : Refusal → List ℕ
body_of Malformed = codes "This is no proper request for a WebSocket. This server speaks STOMP over WebSocket alone.\n"
body_of OtherProtocol = codes "This server speaks STOMP 1.2 alone: offer the subprotocol v12.stomp.\n"
body_of Foreign = codes "This server does not serve pages of your origin.\n"
body_of Method = codes "A WebSocket is asked for by GET.\n"
body_of NoUpgrade = codes "This is a server for WebSockets alone: connect with ws:// in place of http://.\n"
body_of Version = codes "This server speaks version 13 of WebSocket alone.\n"
body_of TooLarge = codes "The head of this request is too large.\n"
body_of Full = codes "This server has as many clients as it takes.\n"

-- the bytes begin a HEAD, whose answer has no content (RFC 9110, section 9.3.2)
abbrev pub is_head : List ℕ → Bool
is_head bytes = starts_with nat_eq bytes (codes "HEAD ")

-- what is sent of its text
abbrev pub content_of : Bool → Refusal → List ℕ
content_of is_head refusal = cond is_head [] (body_of refusal)

-- the whole response
abbrev pub refusal_bytes : Bool → Refusal → List ℕ
refusal_bytes is_head refusal =
    codes "HTTP/1.1 " ++ (status_line refusal ++ (codes "\r\n" ++ (further_fields refusal
    ++ (codes "Content-Type: text/plain\r\nContent-Length: " ++ (decimal (length (body_of refusal)) ++ (codes "\r\n\r\n" ++ content_of is_head refusal))))))

-- the response that says that the WebSocket is there (RFC 6455, section 4.2.2), with the subprotocol if the client offers it
abbrev pub accepting : List ℕ → Bool → List ℕ
accepting accept_key has_stomp =
    codes "HTTP/1.1 101 Switching Protocols" ++ crlf
    ++ field_line (codes "connection") (codes "Upgrade")
    ++ field_line (codes "upgrade") (codes "websocket")
    ++ field_line (codes "sec-websocket-accept") accept_key
    ++ cond has_stomp (field_line (codes "sec-websocket-protocol") (codes "v12.stomp")) [] ++ crlf

-- what is written to a client that is answered so, and that asked by a HEAD or did not
abbrev pub response_to : Bool → Answer → List ℕ
response_to is_head (Accept accept_key has_stomp) = accepting accept_key has_stomp
response_to is_head (Refuse refusal) = refusal_bytes is_head refusal

-- Reads took on: if a stream had lost this head in all before them, it has lost that one now.
abbrev pub ReadsOn : Option (List ℕ) → Option (List ℕ) → List ℕ → List ℕ → Type 0
ReadsOn old new before now = (unread : Option (List ℕ)) → Consumes unread old before → Consumes unread new now

-- Writes went on: if these bytes had been written in all before them, those have been now.
abbrev pub WritesOn : Option (List ℕ) → Option (List ℕ) → List ℕ → List ℕ → Type 0
WritesOn old new before now = (held : Option (List ℕ)) → Appends held old before → Appends held new now

-- The stream gave a whole head that is to be accepted, and nothing after it; then the response that says so was written.
pub record IsAccepted {S : Type 0} (remaining contents : S → Option (List ℕ)) (origins : List (List ℕ)) (old new : S) : Type 0 where
  pub between : S
  pub bytes : List ℕ
  pub accept_key : List ℕ
  pub has_stomp : Bool
  pub read : Consumes (remaining old) (remaining between) bytes
  pub head : IsHead origins bytes (Accept accept_key has_stomp)
  pub written : Appends (contents between) (contents new) (accepting accept_key has_stomp)
