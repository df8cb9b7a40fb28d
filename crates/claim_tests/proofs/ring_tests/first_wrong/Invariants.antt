use Rattle.std.proofs.Common.{◌≡◌}
use Rattle.claim_tests.proofs.ring_tests.first_wrong.Given as goal

abbrev pub invariant-loop-place : goal.invariant-loop-place
invariant-loop-place g l = (l.seat.ring ≡ l.ring) × (l.other.ring ≡ l.ring) × (l.flush.ring ≡ l.ring)
