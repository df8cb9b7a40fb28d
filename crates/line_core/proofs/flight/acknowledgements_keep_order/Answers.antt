use Rattle.line_core.proofs.Flights.{rising-settled, rising-unsettled}
use Rattle.line_core.proofs.flight.acknowledgements_keep_order.Goals as goal

pub returns : goal.returns
returns g c = record { settled = rising-settled; unsettled = rising-unsettled }
