use Rattle.std.proofs.Common.{◌≡◌, length}
use Rattle.command_line.specs.Sizes.{unit_text}
use Rattle.command_line.proofs.words.unit_text.Given as goal

abbrev pub invariant-loop-rest : goal.invariant-loop-rest
invariant-loop-rest l = unit_text l.rest ≡ unit_text l.text

abbrev pub decreases-loop-rest : goal.decreases-loop-rest
decreases-loop-rest l = length l.rest
