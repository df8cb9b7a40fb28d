use Rattle.std.proofs.Common.{◌≡◌, ◌+◌, take}
use Rattle.std.specs.List.{sum_by}
use Rattle.broker_state.specs.States.{bytes, one}
use Rattle.broker_state.proofs.part_checks.room_beside_deliveries.Given as goal

abbrev pub invariant-loop-message : goal.invariant-loop-message
invariant-loop-message l = record {
  messages : l.left.messages + sum_by (λ d. one d.1) (take l.message-index l.deliveries) ≡ l.fn.room.messages;
  bytes : l.left.bytes + sum_by (λ d. bytes d.1) (take l.message-index l.deliveries) ≡ l.fn.room.bytes;
}
