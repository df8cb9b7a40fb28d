use Rattle.std.proofs.Common.{◌≡◌}
use Rattle.flush_tests.proofs.trials.sends_often.Given as goal

abbrev pub invariant-loop : goal.invariant-loop
invariant-loop g l = (l.first.ring ≡ l.ring) × (l.flusher.seat.ring ≡ l.ring) × (l.flusher.executed ≡ l.flusher.stored)
