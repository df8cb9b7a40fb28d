use Rattle.std.proofs.Common.{◌≡◌}
use Rattle.server_core.proofs.service.take_turns.Given as goal

abbrev pub invariant-loop-turn : goal.invariant-loop-turn
invariant-loop-turn l = l.desk.seat.ring ≡ l.fn.desk.seat.ring
