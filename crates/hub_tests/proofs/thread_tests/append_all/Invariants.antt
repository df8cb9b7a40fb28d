use Rattle.std.proofs.Common.{◌≡◌, length}
use Rattle.hub_tests.specs.Parties.{AreAt}
use Rattle.hub_tests.proofs.thread_tests.append_all.Given as goal

abbrev pub invariant-loop-i : goal.invariant-loop-i
invariant-loop-i g l = AreAt l.ring l.seats × (length l.seats ≡ length l.fn.seats)
