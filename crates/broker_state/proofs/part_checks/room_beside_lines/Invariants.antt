use Rattle.std.proofs.Common.{◌≡◌, ◌+◌}
use Rattle.broker_state.specs.States.{bytes, one}
use Rattle.broker_state.specs.Waiting.{weight_of_lines}
use Rattle.broker_state.proofs.part_checks.room_beside_lines.Given as goal

abbrev pub invariant-loop-line : goal.invariant-loop-line
invariant-loop-line g l = record {
  messages : l.left.messages + weight_of_lines one l.lines.entries ≡ l.fn.room.messages + weight_of_lines one l.line-iterator;
  bytes : l.left.bytes + weight_of_lines bytes l.lines.entries ≡ l.fn.room.bytes + weight_of_lines bytes l.line-iterator;
}
