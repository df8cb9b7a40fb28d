-- How long a client waits.
use Rattle.std.specs.Prelude.{◌≤◌, ◌*◌, ◌^◌, Option, Some, None, ⊤}
use Rattle.std.specs.Duration.{as_nanos}
use Rattle.std.specs.declared.time.Duration.{Duration}
use Rattle.std.specs.declared.time.Instant.{Instant}
use Rattle.client_socket.specs.declared.lines.TheConstants.{IDLE_SECONDS}
use Rattle.client_socket.specs.declared.listening.Patience.{Patience}

-- patience that begins at that time, or went on if there is none
abbrev pub patience_from : Option Instant → Patience → Patience
patience_from None patience = patience
patience_from (Some now) patience = record patience { since = now }

-- it was waited for as many seconds as a connection may idle, or for nobody knows how long
abbrev pub IsLong : Option Duration → Type 0
IsLong None = ⊤
IsLong (Some waited) = IDLE_SECONDS * 10 ^ 9 ≤ as_nanos waited
