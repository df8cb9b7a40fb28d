use Rattle.std.proofs.Common.{◌≡◌}
use Rattle.claim_tests.proofs.box_tests.fill.Given as goal

abbrev pub invariant-loop-number : goal.invariant-loop-number
invariant-loop-number g l = l.sender.box ≡ l.fn.sender.box
