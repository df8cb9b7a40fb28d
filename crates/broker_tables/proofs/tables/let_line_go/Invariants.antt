use Rattle.std.proofs.Common.{◌≡◌, ◌+◌, length}
use Rattle.std.specs.List.{sum_by}
use Rattle.broker_state.specs.States.{bytes, one}
use Rattle.broker_tables.proofs.tables.let_line_go.Given as goal

abbrev pub invariant-loop-message : goal.invariant-loop-message
invariant-loop-message l = record {
  messages : l.held.messages + sum_by one l.fn.line ≡ l.fn.held.messages + sum_by one l.line;
  bytes : l.held.bytes + sum_by bytes l.fn.line ≡ l.fn.held.bytes + sum_by bytes l.line;
}

abbrev pub decreases-loop-message : goal.decreases-loop-message
decreases-loop-message l = length l.line
