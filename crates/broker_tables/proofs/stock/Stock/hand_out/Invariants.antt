use Rattle.broker_state.specs.HandOut.{waiting}
use Rattle.broker_tables.specs.Cursors.{AreAwaited, cursors_in}
use Rattle.broker_tables.specs.Stocks.{IsStocked, stocked}
use Rattle.broker_tables.proofs.Answering.{IsUnderWay}
use Rattle.broker_tables.proofs.stock.Stock.hand_out.Given as goal

abbrev pub invariant-loop-key : goal.invariant-loop-key
invariant-loop-key l = record {
  awaited : AreAwaited (cursors_in l.cursors) l.self;
  stocked : IsStocked l.self;
  way : IsUnderWay l.number l.fn.self l.fn.answers l.self l.answers;
}

abbrev pub decreases-loop-key : goal.decreases-loop-key
decreases-loop-key l = waiting (stocked l.self)
