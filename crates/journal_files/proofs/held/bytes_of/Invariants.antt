use Rattle.std.proofs.Common.{◌≡◌, ◌*◌, ◌≤◌, take}
use Rattle.std.specs.List.{sum_by}
use Rattle.broker_state.specs.States.{bytes}
use Rattle.journal_files.proofs.held.bytes_of.Given as goal

abbrev pub invariant-loop-at : goal.invariant-loop-at
invariant-loop-at l = record {
  sum : l.bytes ≡ sum_by bytes (take l.at l.line);
  small : l.bytes ≤ l.at * 2097152;
}
