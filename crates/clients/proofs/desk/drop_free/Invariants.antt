use Rattle.std.proofs.Common.{length}
use Rattle.clients.proofs.PlacesTrimmed.{Shorter}
use Rattle.clients.proofs.desk.drop_free.Given as goal

abbrev pub invariant-loop-places : goal.invariant-loop-places
invariant-loop-places g l = Shorter l.fn.places.items l.places.items

abbrev pub decreases-loop-places : goal.decreases-loop-places
decreases-loop-places g l = length l.places.items
