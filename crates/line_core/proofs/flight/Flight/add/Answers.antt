use Rattle.line_core.specs.Flights.{IsOver}
use Rattle.line_core.proofs.Flights.{rising-pushed}
use Rattle.line_core.proofs.flight.Flight.add.Goals as goal

pub invariant_of-self-2 : goal.invariant_of-self-2
invariant_of-self-2 g c =
    let over : IsOver c.args.delivery c.self.inside.deliveries.items = rw c.self.view_is c.requires in
    rw c.in_ok-push.ensures.items (rising-pushed (c.args.delivery, c.args.item) c.self.inside.deliveries.items c.self.invariant over)
