use Rattle.std.proofs.Common.{◌≡◌}
use Rattle.hub_tests.proofs.desk.rooms.turn_each.Given as goal

abbrev pub invariant-loop-at : goal.invariant-loop-at
invariant-loop-at l = l.desk.seat.ring ≡ l.fn.desk.seat.ring
