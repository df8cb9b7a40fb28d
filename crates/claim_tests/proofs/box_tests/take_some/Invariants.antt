use Rattle.std.proofs.Common.{◌≡◌}
use Rattle.claim_tests.proofs.box_tests.take_some.Given as goal

abbrev pub invariant-loop-count : goal.invariant-loop-count
invariant-loop-count l = l.taker.box ≡ l.fn.taker.box
