use Rattle.std.proofs.Common.{◌≡◌, length}
use Rattle.command_line.specs.Origins.{after_scheme}
use Rattle.command_line.proofs.words.after_scheme.Given as goal

abbrev pub invariant-loop-rest : goal.invariant-loop-rest
invariant-loop-rest l = after_scheme l.rest ≡ after_scheme l.text

abbrev pub decreases-loop-rest : goal.decreases-loop-rest
decreases-loop-rest l = length l.rest
