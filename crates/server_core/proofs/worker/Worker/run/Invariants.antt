use Rattle.std.proofs.Common.{◌≡◌, length}
use Rattle.server_core.proofs.worker.Worker.run.Given as goal

abbrev pub invariant-loop-round : goal.invariant-loop-round
invariant-loop-round g l = record {
  ring : l.rounds.ring ≡ l.fn.self.ring;
  count : l.rounds.count ≡ length l.fn.self.seats;
  can_next : (goal.iterator-loop-round g).can_next l._round-iterator;
  is_finite : (goal.iterator-loop-round g).is_finite l._round-iterator;
}
