use Rattle.std.proofs.Common.{◌<◌, ◌∷◌, ◌∙◌, List, subst, sym, ℕ}
use Rattle.broker_tables.specs.Cursors.{AreAwaited, cursors_in, tickets_left}
use Rattle.broker_tables.specs.declared.cursors.Cursor.{Cursor}
use Rattle.broker_tables.proofs.Awaiting.{awaited_permuted, left_alike, none_ready_at}
use Rattle.broker_tables.proofs.stock.Stock.next_ready.Goals as goal

pub advance-requires-clause-awaited : goal.advance-requires-clause-awaited
advance-requires-clause-awaited c =
    awaited_permuted c.args.self.now (cursors_in c.loop-cursor.cursors) (c.in-Some.cursor ∷ cursors_in c.take.new.self) c.in-Some.ensures.taken c.loop-cursor.invariant

pub loop-cursor-smaller : goal.loop-cursor-smaller
loop-cursor-smaller c =
    subst (λ (n : ℕ). tickets_left (cursors_in c.advance.new.cursors) < n) (left_alike (cursors_in c.loop-cursor.cursors) (c.in-Some.cursor ∷ cursors_in c.take.new.self) c.in-Some.ensures.taken)
    (c.in_ok-key.ensures.nearer c.in_default-2.is)

pub returns-clause-ready : goal.returns-clause-ready
returns-clause-ready c =
    none_ready_at c.args.self.now c.stand_in_order.ensures.order (subst (λ (l : List Cursor). AreAwaited l c.args.self.now) c.in_default.ensures.none.0 c.loop-cursor.invariant)

pub returns-clause-awaited : goal.returns-clause-awaited
returns-clause-awaited c =
    subst (λ (l : List Cursor). AreAwaited l c.args.self.now) (c.in_default.ensures.none.0 ∙ sym c.in_default.ensures.none.1) c.loop-cursor.invariant
