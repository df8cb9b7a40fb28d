use Rattle.std.proofs.Common.{◌≡◌, ◌++◌}
use Rattle.session_core.specs.Sessions.{acts_of, phase_of}
use Rattle.session_core.proofs.session.answer_all.Given as goal

abbrev pub invariant-loop-frame : goal.invariant-loop-frame
invariant-loop-frame l = record {
  done : l.acts.items ≡ l.fn.acts.items ++ acts_of l.fn.phase l.yielded;
  stands : l.phase ≡ phase_of l.fn.phase l.yielded;
}
