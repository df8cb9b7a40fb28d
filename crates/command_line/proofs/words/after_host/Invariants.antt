use Rattle.std.proofs.Common.{◌≡◌, length}
use Rattle.command_line.specs.Addresses.{after_host}
use Rattle.command_line.proofs.words.after_host.Given as goal

abbrev pub invariant-loop-rest : goal.invariant-loop-rest
invariant-loop-rest l = after_host l.rest ≡ after_host l.text

abbrev pub decreases-loop-rest : goal.decreases-loop-rest
decreases-loop-rest l = length l.rest
