-- Which worker gets a client.
use Rattle.std.specs.Prelude.{ℕ, Bool, true, false, List, Option, Some, None, ◌≤◌, ◌<◌, ◌+◌, cond, length, nat_lt}
use Rattle.std.specs.List.{All, slice_index_or}
use Rattle.server_core.specs.declared.acceptor.Coming.{Coming}
use Rattle.server_core.specs.declared.acceptor.Coming.TheVariants.{HandedOut, LetGo, Last}
use Rattle.server_core.specs.declared.acceptor.TheConstants.{ANSWERED, KEPT}
use Rattle.ws_core.specs.declared.handshake.Vacancy.{Vacancy}
use Rattle.ws_core.specs.declared.handshake.Vacancy.TheVariants.{Any, Ping, Nobody}

-- no count is less than the one at that place
abbrev pub IsFewest : List ℕ → ℕ → Type 0
IsFewest counts at = (at < length counts) × All (λ count. slice_index_or counts at 0 ≤ count) counts

-- Whom a server has a place for that has so many clients, and takes no more than that: some more places are kept for pings, and a few more are
-- answered that it is full. All others are not answered.
abbrev pub vacancy : (clients most : ℕ) → Option Vacancy
vacancy clients most =
    cond (nat_lt clients most) (Some Any)
    (cond (nat_lt clients (most + KEPT)) (Some Ping) (cond (nat_lt clients (most + (KEPT + ANSWERED))) (Some Nobody) None))

-- A client is handed to a desk until the server is asked to end, and then let go. The first one after its workers part with theirs is the last.
abbrev pub comes_to : (is_asked has_begun : Bool) → Coming
comes_to false has_begun = HandedOut
comes_to true false = LetGo
comes_to true true = Last
