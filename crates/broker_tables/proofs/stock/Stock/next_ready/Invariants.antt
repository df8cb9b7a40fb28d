use Rattle.broker_tables.specs.Cursors.{AreAwaited, cursors_in, tickets_left}
use Rattle.broker_tables.proofs.stock.Stock.next_ready.Given as goal

abbrev pub invariant-loop-cursor : goal.invariant-loop-cursor
invariant-loop-cursor l = AreAwaited (cursors_in l.cursors) l.self

abbrev pub decreases-loop-cursor : goal.decreases-loop-cursor
decreases-loop-cursor l = tickets_left (cursors_in l.cursors)
