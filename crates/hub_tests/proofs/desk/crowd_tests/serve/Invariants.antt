use Rattle.std.proofs.Common.{◌≡◌}
use Rattle.hub_tests.proofs.desk.crowd_tests.serve.Given as goal

abbrev pub invariant-loop : goal.invariant-loop
invariant-loop g l = l.desk.seat.ring ≡ l.fn.desk.seat.ring
