use Rattle.std.proofs.Common.{◌≡◌, ◌≤◌, length, take}
use Rattle.work_share.specs.Loads.{all_under_way}
use Rattle.work_share.proofs.costs.all_under_way.Given as goal

abbrev pub invariant-loop-load : goal.invariant-loop-load
invariant-loop-load l = (l.load-index ≤ length l.loads) × (l.sum ≡ all_under_way l.mark (take l.load-index l.loads))
