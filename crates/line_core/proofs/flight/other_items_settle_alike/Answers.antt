use Rattle.line_core.proofs.Flights.{has_delivery-mapped, rising-mapped, settled-mapped, unsettled-mapped}
use Rattle.line_core.proofs.flight.other_items_settle_alike.Goals as goal

pub returns : goal.returns
returns g c = record {
  has = has_delivery-mapped;
  settled = settled-mapped;
  unsettled = unsettled-mapped;
  rising = rising-mapped;
}
