use Rattle.std.proofs.Common.{◌≡◌}
use Rattle.hub_tests.proofs.thread_tests.append.Given as goal

abbrev pub invariant-loop : goal.invariant-loop
invariant-loop g l = l.seat.ring ≡ l.fn.seat.ring
