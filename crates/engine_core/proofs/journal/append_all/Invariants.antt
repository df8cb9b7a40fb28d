use Rattle.std.proofs.Common.{◌≡◌, ◌+◌, length}
use Rattle.engine_core.specs.Placed.{ArePlaced, AreSeatsOf}
use Rattle.engine_core.proofs.journal.append_all.Given as goal

abbrev pub invariant-loop-command : goal.invariant-loop-command
invariant-loop-command l = record {
  seats : AreSeatsOf l.ring l.seats.items;
  next : l.next ≡ l.fn.first + length l.yielded;
  placed : ArePlaced l.fn.first l.seats.items l.yielded;
}
