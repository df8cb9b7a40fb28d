use Rattle.std.proofs.Common.{◌≡◌}
use Rattle.hub_tests.specs.Parties.{MayFlush}
use Rattle.hub_tests.proofs.desk.crowd_tests.flush_to.Given as goal

abbrev pub invariant-loop : goal.invariant-loop
invariant-loop g l = MayFlush l.ring l.flusher × (l.flusher.seat.seats ≡ l.fn.flusher.seat.seats)
