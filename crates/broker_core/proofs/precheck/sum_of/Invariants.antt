use Rattle.std.proofs.Common.{◌≡◌, take}
use Rattle.std.specs.List.{sum_by}
use Rattle.broker_core.proofs.precheck.sum_of.Given as goal

abbrev pub invariant-loop-size : goal.invariant-loop-size
invariant-loop-size l = l.bytes ≡ sum_by (λ item. item.1.bytes) (take l.size-index l.settled)
