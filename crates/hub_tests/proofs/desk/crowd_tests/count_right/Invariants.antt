use Rattle.std.proofs.Common.{◌≡◌}
use Rattle.hub_tests.proofs.desk.crowd_tests.count_right.Given as goal

abbrev pub invariant-loop-i : goal.invariant-loop-i
invariant-loop-i l = l.desk.seat.ring ≡ l.fn.desk.seat.ring
