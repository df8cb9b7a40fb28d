use Rattle.std.proofs.Common.{◌≡◌, false, take}
use Rattle.line_core.specs.Flights.{has_delivery}
use Rattle.line_core.proofs.flight.Flight.place_of.Given as goal

abbrev pub invariant-loop-place : goal.invariant-loop-place
invariant-loop-place g l = has_delivery l.delivery (take l.place l.self-inside.deliveries.items) ≡ false
