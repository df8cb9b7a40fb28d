use Rattle.std.proofs.Common.{◌≡◌}
use Rattle.hub_tests.specs.Parties.{MayFlush}
use Rattle.hub_tests.proofs.desk.rooms.first_wrong.Given as goal

abbrev pub invariant-loop-place : goal.invariant-loop-place
invariant-loop-place l = (l.desk.seat.ring ≡ l.ring) × MayFlush l.ring l.flusher × (l.flusher.seat.seats ≡ l.fn.flusher.seat.seats)
