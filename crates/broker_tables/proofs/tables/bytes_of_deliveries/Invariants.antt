use Rattle.std.proofs.Common.{◌≡◌, take}
use Rattle.std.specs.List.{sum_by}
use Rattle.broker_state.specs.States.{bytes}
use Rattle.broker_tables.proofs.tables.bytes_of_deliveries.Given as goal

abbrev pub invariant-loop-message : goal.invariant-loop-message
invariant-loop-message l = l.bytes ≡ sum_by (λ delivery. bytes delivery.1) (take l.message-index l.deliveries)
