use Rattle.std.proofs.Common.{◌≡◌, ◌<◌, ℕ}
use mathlib.Core.Option.{some}
use lib.ListN.{get_elem?}
use Rattle.claim_core.specs.Endings.{Agree}
use Rattle.claim_core.specs.Seats.{SessionSeatValue}
use Rattle.engine_core.proofs.command_queue.compare_all.Given as goal

abbrev pub invariant-loop-place : goal.invariant-loop-place
invariant-loop-place g l = record {
  flusher : l.flusher ≡ l.fn.flusher;
  seats : l.seats.items ≡ l.fn.seats.items;
  agree : (j : ℕ) (seat : SessionSeatValue) → j < l.place → get_elem? l.fn.seats.items j ≡ some seat → Agree seat l.fn.flusher.seat;
}
