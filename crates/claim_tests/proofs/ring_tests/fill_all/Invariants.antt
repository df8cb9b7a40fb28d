use Rattle.std.proofs.Common.{◌≡◌}
use Rattle.std.specs.Prelude.{All}
use Rattle.claim_core.specs.Seats.{SessionSeatValue}
use Rattle.claim_tests.proofs.ring_tests.fill_all.Given as goal

abbrev pub invariant-loop-place : goal.invariant-loop-place
invariant-loop-place g l = All (λ (seat : SessionSeatValue). seat.ring ≡ l.ring) l.seats
