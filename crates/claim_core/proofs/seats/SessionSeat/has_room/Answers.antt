use Rattle.std.proofs.Common.{arith, ap, nat_lt}
use Rattle.claim_core.proofs.Waiting.{kept_waiting}
use Rattle.claim_core.proofs.seats.SessionSeat.has_room.Goals as goal

pub returns : goal.returns
returns g c = ap (λ n. nat_lt n c.args.window) (omega (arith, c.len.ensures, kept_waiting _ _ c.self.inside.table_seat.me.0 _ _ c.self.view_is c.self.invariant.waits_is))
