use Rattle.std.proofs.Common.{◌≡◌, length}
use Rattle.work_share.proofs.costs.Costs.new.Given as goal

abbrev pub invariant-loop-desk : goal.invariant-loop-desk
invariant-loop-desk l = length l.loads.items ≡ l._desk
