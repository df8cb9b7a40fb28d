-- So many so far.
use Rattle.std.proofs.Common.{◌≡◌, [], replicate}
use Rattle.world_core.proofs.seat.seats.Given as goal

abbrev pub invariant-loop-i : goal.invariant-loop-i
invariant-loop-i l = l.all.items ≡ replicate l.i (record { own = []; seen = l.seen })
