-- Those so far begin anew.
use Rattle.std.proofs.Common.{◌≡◌, [], ◌++◌, map, take, drop}
use Rattle.world_core.specs.declared.seat.Seat.{Seat}
use Rattle.world_core.proofs.seat.renew.Given as goal

abbrev pub invariant-loop-seat : goal.invariant-loop-seat
invariant-loop-seat l = l.seats ≡ map (λ (s : Seat). record { own = []; seen = l.seen }) (take l.seat-index l.fn.seats) ++ drop l.seat-index l.fn.seats
