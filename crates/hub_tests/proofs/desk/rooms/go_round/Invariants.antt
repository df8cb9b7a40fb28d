use Rattle.std.proofs.Common.{◌≡◌}
use Rattle.hub_tests.specs.Parties.{MayFlush}
use Rattle.hub_tests.proofs.desk.rooms.go_round.Given as goal

abbrev pub invariant-loop-round : goal.invariant-loop-round
invariant-loop-round l = (l.desk.seat.ring ≡ l.ring) × MayFlush l.ring l.flusher × (l.flusher.seat.seats ≡ l.fn.flusher.seat.seats)
