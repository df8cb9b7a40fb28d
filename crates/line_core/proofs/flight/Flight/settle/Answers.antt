use Rattle.std.proofs.Common.{◌≡◌, rules}
use Rattle.line_core.specs.Flights.{StandsAt, settled}
use Rattle.line_core.proofs.Flights.{rising-after}
use Rattle.line_core.proofs.Results.{ok_of_map_err}
use Rattle.line_core.proofs.flight.Flight.settle.Goals as goal

pub invariant_of-self : goal.invariant_of-self
invariant_of-self g c =
    let items = c.self.inside.deliveries.items in
    let at : StandsAt c.in-Some.place c.args.delivery items = rw c.self.view_is c.in-Some.ensures.at in
    rising-after c.split.result c.args.mode c.args.delivery items c.split.new.deliveries.items (c.split.ensures.unsettled c.args.delivery at) c.split.ensures.same c.self.invariant

pub returns-clause-settled : goal.returns-clause-settled
returns-clause-settled g c =
    let items = c.self.inside.deliveries.items in
    let at : StandsAt c.in-Some.place c.args.delivery items = rw c.self.view_is c.in-Some.ensures.at in
    rw (← c.self.view_is) (ok_of_map_err c.split.result c.map_err.result (λ out. out.items ≡ settled c.args.mode c.args.delivery items) _ c.map_err.ensures.cases c.map_err.ensures.variant (c.split.ensures.settled c.args.delivery at))

pub returns-in_default-clause-ok : goal.returns-in_default-clause-ok
returns-in_default-clause-ok g c = search rules

pub returns-in_default-clause-settled : goal.returns-in_default-clause-settled
returns-in_default-clause-settled g c = search rules

pub returns-in_default-clause-unsettled : goal.returns-in_default-clause-unsettled
returns-in_default-clause-unsettled g c = search rules

pub returns-in_default-clause-unknown : goal.returns-in_default-clause-unknown
returns-in_default-clause-unknown g c = search rules
