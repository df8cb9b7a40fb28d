use Rattle.std.proofs.Common.{◌≡◌}
use Rattle.claim_tests.proofs.ring_tests.takes_eight.Given as goal

abbrev pub invariant-loop-i : goal.invariant-loop-i
invariant-loop-i g l = l.flush.ring ≡ l.ring
