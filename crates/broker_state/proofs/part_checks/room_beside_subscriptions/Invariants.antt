use Rattle.std.proofs.Common.{◌≡◌, ◌+◌, take}
use Rattle.std.specs.List.{sum_by}
use Rattle.broker_state.specs.States.{bytes, one, weight_of_subscription}
use Rattle.broker_state.proofs.part_checks.room_beside_subscriptions.Given as goal

abbrev pub invariant-loop-sub : goal.invariant-loop-sub
invariant-loop-sub l = record {
  messages : l.left.messages + sum_by (weight_of_subscription one) (take l.sub-index l.subscriptions) ≡ l.fn.room.messages;
  bytes : l.left.bytes + sum_by (weight_of_subscription bytes) (take l.sub-index l.subscriptions) ≡ l.fn.room.bytes;
}
