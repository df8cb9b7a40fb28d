use Rattle.std.proofs.Common.{refl}
use Rattle.clients.proofs.FootprintSums.{counted_none}
use Rattle.clients.proofs.DeskPlaces.{fresh}
use Rattle.clients.proofs.desk.Desk.new.Goals as goal

pub invariant_of-result : goal.invariant_of-result
invariant_of-result g c = (fresh c.of.result.value c.args.seat c.new.result.items c.of.ensures c.new.ensures.items, counted_none c.args.limit 0 c.new.result.items refl c.new.ensures.items)
