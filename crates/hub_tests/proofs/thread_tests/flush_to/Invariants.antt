use Rattle.std.proofs.Common.{◌≡◌}
use Rattle.std.specs.Prelude.{false}
use Rattle.hub_tests.proofs.thread_tests.flush_to.Given as goal

abbrev pub invariant-loop : goal.invariant-loop
invariant-loop g l = (l.flusher.seat.ring ≡ l.ring) × (l.flusher.seat.seats ≡ l.fn.flusher.seat.seats) × (l.flusher.broken ≡ false → l.flusher.executed ≡ l.flusher.stored)
