-- What a client reads of a stream, and sends.
use Rattle.std.specs.Prelude.{◌≡◌, ◌<◌, ◌⊎◌, List, [], ◌∷◌, ◌++◌, ℕ, ⊤, codes, length}
use Rattle.client_core.specs.Lines.{HasLineReason}
use Rattle.client_core.specs.Talks.{HasReason}
use Rattle.client_core.specs.Texts.{client_text}
use Rattle.client_core.specs.declared.fault.ClientFault.{ClientFault}
use Rattle.client_socket.specs.declared.lines.InputFault.{InputFault}
use Rattle.client_socket.specs.declared.lines.InputFault.TheVariants.{NoBody, TooLong, Client}

-- all that a stream has is no body: it is nothing, or more than 65,536 bytes
abbrev pub IsNoBody : InputFault → List ℕ → Type 0
IsNoBody NoBody all = all ≡ []
IsNoBody TooLong all = 65536 < length all
IsNoBody _ all = ⊤

-- the fault is that of a conversation that opens a session, or of what came while lines were under way
abbrev pub IsUnsent : ClientFault → Type 0
IsUnsent fault = HasReason fault ⊎ HasLineReason fault

-- why a line was not sent: no body is missing, and a conversation's fault has its reason
abbrev pub IsLineFault : InputFault → Type 0
IsLineFault NoBody = ⊥
IsLineFault (Client fault) = IsUnsent fault
IsLineFault _ = ⊤

-- what is told while another session has a durable name
abbrev pub held_line : ClientFault → List ℕ
held_line fault = codes "stompd: " ++ client_text fault ++ codes "; waiting up to 90 s for another session to end" ++ 10 ∷ []

-- what is told once a connection is gone, and is made again
abbrev pub again_line : ClientFault → List ℕ
again_line fault = codes "stompd: " ++ client_text fault ++ codes "; connecting again" ++ 10 ∷ []
