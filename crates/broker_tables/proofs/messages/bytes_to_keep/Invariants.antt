use Rattle.std.proofs.Common.{◌≡◌, ◌≤◌, ◌*◌, take}
use Rattle.line_core.specs.Flights.{settled}
use Rattle.broker_tables.specs.Refusals.{all_kept_bytes}
use Rattle.broker_tables.proofs.messages.bytes_to_keep.Given as goal

abbrev pub invariant-loop-number : goal.invariant-loop-number
invariant-loop-number l = record {
  bytes : l.bytes ≡ all_kept_bytes l.own (settled l.mode l.delivery (take l.number-index l.deliveries));
  small : l.bytes ≤ l.number-index * 4194304;
}
