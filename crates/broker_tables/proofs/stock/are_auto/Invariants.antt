use Rattle.std.proofs.Common.{◌-◌}
use Rattle.broker_tables.proofs.Turning.{AreAutoUntil}
use Rattle.broker_tables.proofs.stock.are_auto.Given as goal

abbrev pub invariant-loop-place : goal.invariant-loop-place
invariant-loop-place l = AreAutoUntil l.group l.order.all l.from

abbrev pub decreases-loop-place : goal.decreases-loop-place
decreases-loop-place l = l.order.next - l.from
