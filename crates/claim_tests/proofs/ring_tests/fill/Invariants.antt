use Rattle.std.proofs.Common.{◌≡◌}
use Rattle.claim_tests.proofs.ring_tests.fill.Given as goal

abbrev pub invariant-loop-number : goal.invariant-loop-number
invariant-loop-number g l = l.seat.ring ≡ l.ring
