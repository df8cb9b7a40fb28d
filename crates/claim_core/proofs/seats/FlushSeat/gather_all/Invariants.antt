use Rattle.std.proofs.Common.{◌≡◌}
use Rattle.claim_core.specs.declared.views.View.TheVariants.{Owns}
use Rattle.claim_core.specs.Seats.{owner_with}
use Rattle.claim_core.proofs.seats.FlushSeat.gather_all.Given as goal

abbrev pub invariant-loop-seat : goal.invariant-loop-seat
invariant-loop-seat g l = (l.table_seat.table_id ≡ l.board.table_id) × (l.table_seat.me.0 ≡ Owns (owner_with l.fn.self l.yielded))
