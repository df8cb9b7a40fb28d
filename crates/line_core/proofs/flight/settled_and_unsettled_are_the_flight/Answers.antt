use Rattle.line_core.proofs.Flights.{length-settled, sum_by-settled}
use Rattle.line_core.proofs.flight.settled_and_unsettled_are_the_flight.Goals as goal

pub returns : goal.returns
returns g c = record { count = length-settled; sum = sum_by-settled }
