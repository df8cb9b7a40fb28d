use Rattle.std.proofs.Common.{◌≡◌}
use Rattle.claim_core.proofs.tests.go_round.Given as goal

abbrev pub invariant-loop : goal.invariant-loop
invariant-loop g l = (l.seat.ring ≡ l.ring) × (l.flush.ring ≡ l.ring)
