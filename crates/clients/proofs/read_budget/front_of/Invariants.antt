use Rattle.std.proofs.Common.{length}
use Rattle.clients.proofs.FramePassing.{Passed}
use Rattle.clients.proofs.read_budget.front_of.Given as goal

abbrev pub invariant-loop-place : goal.invariant-loop-place
invariant-loop-place l = Passed l.fn.place l.place l.most l.left l.bytes l.rest

abbrev pub decreases-loop-place : goal.decreases-loop-place
decreases-loop-place l = length l.rest
