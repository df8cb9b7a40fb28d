use Rattle.std.proofs.Common.{◌≡◌, ◌+◌, length}
use Rattle.claim_core.specs.declared.limits.TheConstants.{SEATS}
use Rattle.server_core.specs.Serving.{AreAt}
use Rattle.server_core.proofs.serving.add_seats.Given as goal

abbrev pub invariant-loop-seat : goal.invariant-loop-seat
invariant-loop-seat l = record {
  rest : l.hub ≡ record l.fn.hub { seats = l.hub.seats };
  left : length l.hub.seats + l._seat ≡ SEATS;
  count : length l.seats.items ≡ length l.fn.seats.items + l._seat;
  seats : AreAt l.fn.hub.ring l.fn.seats.items → AreAt l.fn.hub.ring l.seats.items;
}
