use Rattle.std.proofs.Common.{◌≤◌, ◌*◌, ◌+◌, length}
use Rattle.work_share.specs.declared.audiences.TheConstants.{OPERATION}
use Rattle.work_share.specs.declared.costs.TheConstants.{GREEDY}
use Rattle.work_share.proofs.audiences.Audiences.cost_of.Given as goal

abbrev pub invariant-loop-member : goal.invariant-loop-member
invariant-loop-member l = (l.member-index ≤ length l.members) × (OPERATION * (1 + l.member-index) ≤ l.cost) × (l.cost ≤ GREEDY)
