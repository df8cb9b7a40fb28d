use Rattle.std.proofs.Common.{◌≡◌, ◌++◌, ◌-◌}
use Rattle.waiting_order.specs.Waiting.{subs_of}
use Rattle.broker_core.specs.Prechecks.{flights_of}
use Rattle.broker_core.proofs.FlightsFrom.{flights_from}
use Rattle.broker_core.proofs.precheck.flights_of.Given as goal

abbrev pub invariant-loop-place : goal.invariant-loop-place
invariant-loop-place l = l.flights.items ++ flights_from l.session l.from l.order.all ≡ flights_of l.session (subs_of l.order.all)

abbrev pub decreases-loop-place : goal.decreases-loop-place
decreases-loop-place l = l.order.next - l.from
