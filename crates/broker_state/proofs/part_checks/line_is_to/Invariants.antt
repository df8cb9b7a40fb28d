use Rattle.std.proofs.Common.{take}
use Rattle.broker_state.specs.Sound.{AreTo}
use Rattle.broker_state.proofs.part_checks.line_is_to.Given as goal

abbrev pub invariant-loop-at : goal.invariant-loop-at
invariant-loop-at l = AreTo l.to (take l.at l.line)
