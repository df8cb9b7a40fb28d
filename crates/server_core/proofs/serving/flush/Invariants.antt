use Rattle.std.proofs.Common.{◌≡◌}
use Rattle.server_core.specs.Serving.{IsReady}
use Rattle.server_core.proofs.serving.flush.Given as goal

abbrev pub invariant-loop-round : goal.invariant-loop-round
invariant-loop-round g l = record {
  ring : l.flusher.seat.ring ≡ l.fn.flusher.seat.ring;
  ready : IsReady l.fn.shared.ring l.flusher;
  seats : l.flusher.seat.seats ≡ l.fn.flusher.seat.seats;
  can_next : (goal.iterator-loop-round g).can_next l._round-iterator;
  is_finite : (goal.iterator-loop-round g).is_finite l._round-iterator;
}
