-- Why a connection is closed.
use Rattle.std.specs.Prelude.{ℕ, List, [], Option, Some, None}
use Rattle.tungstenite.specs.CloseCode.{close_code_of}
use Rattle.tungstenite.specs.declared.error.Error.{Error}
use Rattle.tungstenite.specs.declared.error.Error.TheVariants.{Protocol, Utf8, Capacity}
use Rattle.websocket.specs.declared.error.ProtocolError.TheVariants.{ResetWithoutClosingHandshake}
use Rattle.websocket.specs.declared.protocol.frame.coding.CloseCode.{CloseCode}
use Rattle.ws_core.specs.declared.link.CloseReason.{CloseReason}
use Rattle.ws_core.specs.declared.link.CloseReason.TheVariants.{NormalClosure, GoingAway, ProtocolError}

-- RFC 6455, section 7.4.1
abbrev pub code_of : CloseReason → ℕ
code_of NormalClosure = 1000
code_of GoingAway = 1001
code_of ProtocolError = 1002

-- the code and the text of the close frame (section 5.5.1), which has no text
abbrev pub close_of : CloseReason → Option (CloseCode × List ℕ)
close_of reason = Some (close_code_of (code_of reason), [])

-- the code by which a peer is told what it did wrong (section 7.4.1); there is none if the stream ended or failed, or memory was refused
abbrev pub breach_code : Error → Option ℕ
breach_code (Protocol ResetWithoutClosingHandshake) = None
breach_code (Protocol cause) = Some 1002
breach_code Utf8 = Some 1007
breach_code (Capacity cause) = Some 1009
breach_code _ = None
