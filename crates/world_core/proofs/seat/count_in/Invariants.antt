-- The count so far.
use Rattle.std.proofs.Common.{◌≡◌, take}
use Rattle.std.specs.Prelude.{count_by, nat_le}
use Rattle.world_core.proofs.seat.count_in.Given as goal

abbrev pub invariant-loop-ticket : goal.invariant-loop-ticket
invariant-loop-ticket l = l.count ≡ count_by (nat_le l.least) (take l.ticket-index l.tickets)
