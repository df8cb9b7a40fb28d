use Rattle.std.proofs.Common.{◌≡◌, ◌+◌, take}
use Rattle.std.specs.List.{sum_by}
use Rattle.broker_state.specs.States.{bytes, one}
use Rattle.broker_state.proofs.part_checks.room_beside_line.Given as goal

abbrev pub invariant-loop-at : goal.invariant-loop-at
invariant-loop-at l = record {
  messages : l.left.messages + sum_by one (take l.at l.line) ≡ l.fn.room.messages;
  bytes : l.left.bytes + sum_by bytes (take l.at l.line) ≡ l.fn.room.bytes;
}
