use Rattle.std.proofs.Common.{◌≡◌, ◌++◌}
use Rattle.std.specs.List.{flat_map}
use Rattle.journal_files.specs.SessionObjects.{session_object}
use Rattle.journal_files.proofs.sessions.put_each_session.Given as goal

abbrev pub invariant-loop-number : goal.invariant-loop-number
invariant-loop-number l = record {
  before : l.out.before ≡ l.fn.out.before;
  tokens : l.out.tokens ++ flat_map session_object l.number-iterator ≡ l.fn.out.tokens ++ flat_map session_object l.sessions.entries;
}
