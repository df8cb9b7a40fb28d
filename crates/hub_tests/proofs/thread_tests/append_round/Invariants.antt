use Rattle.std.proofs.Common.{◌≡◌, length}
use Rattle.hub_tests.specs.Parties.{AreAt}
use Rattle.hub_tests.proofs.thread_tests.append_round.Given as goal

abbrev pub invariant-loop-place : goal.invariant-loop-place
invariant-loop-place g l = AreAt l.ring l.seats × (length l.seats ≡ length l.fn.seats)
