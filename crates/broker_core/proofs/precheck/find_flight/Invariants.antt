use Rattle.std.proofs.Common.{take}
use Rattle.broker_state.specs.Parts.{NonePass}
use Rattle.broker_core.specs.Prechecks.{has}
use Rattle.broker_core.proofs.precheck.find_flight.Given as goal

abbrev pub invariant-loop-at : goal.invariant-loop-at
invariant-loop-at l = NonePass (has l.delivery) (take l.at l.flights)
