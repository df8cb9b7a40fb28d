use Rattle.std.proofs.Common.{◌≡◌}
use Rattle.claim_tests.proofs.ring_tests.appends_eight.Given as goal

abbrev pub invariant-loop-i : goal.invariant-loop-i
invariant-loop-i g l = l.seat.ring ≡ l.ring
