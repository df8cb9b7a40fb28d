use Rattle.std.proofs.Common.{◌≡◌, ◌≤◌, ◌*◌, take}
use Rattle.std.specs.List.{sum_by}
use Rattle.line_core.specs.Flights.{settled}
use Rattle.broker_state.specs.States.{bytes}
use Rattle.broker_tables.proofs.messages.settled_bytes.Given as goal

abbrev pub invariant-loop-number : goal.invariant-loop-number
invariant-loop-number l = record {
  bytes : l.bytes ≡ sum_by (λ delivery. bytes delivery.1) (settled l.mode l.delivery (take l.number-index l.deliveries));
  small : l.bytes ≤ l.number-index * 2097152;
}
