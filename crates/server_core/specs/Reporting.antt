-- Who stands in line since the poll reported something of it.
use Rattle.std.specs.Prelude.{◌≡◌, ◌<◌, ◌+◌, ◌*◌, ℕ, List, length}
use Rattle.std.specs.List.{slice_index_or}
use Rattle.clients.specs.Lines.{times}
use Rattle.clients.specs.declared.lines.Lines.{Lines}
use Rattle.clients.specs.declared.wakers.TheConstants.{CLIENTS}
use Rattle.mio.specs.Event.{event_token}
use Rattle.mio.specs.declared.event.event.Event.{Event}
use Rattle.server_core.specs.declared.service.Service.{Service}

-- that client stands in line for a turn, or goes on by itself
abbrev pub StandsInLine : ℕ → Lines → Type 0
StandsInLine client l = 0 < times client l.ready + times client l.again

module _ {R : Type 0} where
  -- if an event is of a client of one of these desks, that one stands in line there
  abbrev pub IsReported : List (Service R) → Event → Type 0
  IsReported services event = (desk client : ℕ) (d : Service R) → client < CLIENTS → desk * CLIENTS + client ≡ (event_token event).0 → desk < length services
      → StandsInLine client (slice_index_or services desk d).clients.lines
