use Rattle.std.proofs.Common.{◌≡◌, take}
use Rattle.line_core.specs.Flights.{mapped}
use Rattle.broker_core.specs.Prechecks.{sized}
use Rattle.broker_core.proofs.precheck.sizes_of.Given as goal

abbrev pub invariant-loop-delivery : goal.invariant-loop-delivery
invariant-loop-delivery l = l.sizes ≡ mapped (sized l.own) (take l.delivery-index l.flight)
