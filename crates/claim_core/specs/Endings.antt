-- What is known of a ring at its end.
use Rattle.std.specs.Prelude.{◌≡◌, ℕ, ◌+◌, ◌<◌, ◌≤◌, List, ◌++◌, length, true}
use mathlib.Core.Option.{some}
use lib.ListN.{get_elem?}
use Rattle.command_core.specs.Commands.{CommandValue}
use Rattle.claim_core.specs.declared.ring.RingEnd.{RingEnd}
use Rattle.claim_core.specs.Counts.{sum_of, times}
use Rattle.claim_core.specs.Rule.{IsRising, IsOwnOf}
use Rattle.claim_core.specs.Seats.{SessionSeatValue, FlushSeatValue, next_ticket}

-- A seat's own commands stand in the history at its tickets, which rise. It read no mark over the flusher's, and found
-- the ring stopped only if the flusher had stopped it.
pub record Matches (flush : FlushSeatValue) (log : List CommandValue) (seat : SessionSeatValue) : Type 0 where
  pub rising : IsRising flush.base seat.own
  pub own : IsOwnOf flush.base log seat.own
  pub seen : seat.seen ≤ flush.published
  pub stop : seat.stopped ≡ true → flush.stopped ≡ true

-- A session's seat and the flusher's know of one history: what the flusher took begins it, and the seat's own commands
-- stand in it at their tickets.
abbrev pub Agree : SessionSeatValue → FlushSeatValue → Type 0
Agree seat flush = (log : List CommandValue) × ((rest : List CommandValue) × (log ≡ flush.taken ++ rest)) × Matches flush log seat

-- There was one history, the commands of all tickets from the base on. What the flusher took begins it, and the mark
-- lies between the base and what was taken. Each ticket is in one seat's own commands, once.
pub record Ends (seats : List SessionSeatValue) (flush : FlushSeatValue) (log : List CommandValue) (end : RingEnd) : Type 0 where
  pub base : end.base ≡ flush.base
  pub claimed : end.claimed ≡ flush.base + length log
  pub taken : end.taken ≡ next_ticket flush
  pub mark : end.mark ≡ flush.published
  pub ordered : (end.base ≤ end.mark) × (end.mark ≤ end.taken) × (end.taken ≤ end.claimed)
  pub prefix : (rest : List CommandValue) × (log ≡ flush.taken ++ rest)
  pub once : (i : ℕ) → i < length log → sum_of (λ (seat : SessionSeatValue). times (flush.base + i) seat.own) seats ≡ 1
  pub each : (k : ℕ) (seat : SessionSeatValue) → get_elem? seats k ≡ some seat → Matches flush log seat
