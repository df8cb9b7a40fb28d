use Rattle.broker_tables.specs.Alike.{Knows}
use Rattle.broker_tables.proofs.Turning.{IsTurning}
use Rattle.broker_tables.proofs.stock.Stock.hand_to_each.Given as goal

abbrev pub invariant-loop-left : goal.invariant-loop-left
invariant-loop-left l = IsTurning l.number l.group l.told l.fn.self l.fn.answers l.left l.self l.answers × Knows l.told l.last

abbrev pub decreases-loop-left : goal.decreases-loop-left
decreases-loop-left l = l.left
