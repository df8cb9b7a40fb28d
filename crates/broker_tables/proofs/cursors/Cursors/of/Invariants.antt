use Rattle.std.proofs.Common.{take}
use Rattle.broker_tables.specs.Cursors.{AwaitAllDue, cursors_in}
use Rattle.broker_tables.proofs.cursors.Cursors.of.Given as goal

abbrev pub invariant-loop-due : goal.invariant-loop-due
invariant-loop-due l = AwaitAllDue (cursors_in l.cursors) (take l.due-index l.marked) l.order.all
