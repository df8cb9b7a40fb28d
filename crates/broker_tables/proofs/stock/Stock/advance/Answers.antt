use Rattle.std.proofs.Common.{◌<◌, ◌∷◌, arith}
use Rattle.std.proofs.lemmas.Result.{IfOk-weaker}
use Rattle.broker_state.proofs.Weights.{all_at}
use Rattle.broker_tables.specs.Cursors.{cursors_in}
use Rattle.broker_tables.proofs.Awaiting.{awaited_moved, awaited_permuted, awaited_without, before_place, idle_waits, moved_left, nearer}
use Rattle.broker_tables.proofs.Dues.{clash}
use Rattle.broker_tables.proofs.Scopes.{idle_before, idle_to_end}
use Rattle.broker_tables.proofs.Waiters.{W}
use Rattle.broker_tables.proofs.stock.Stock.advance.Goals as goal

pub returns-in_default-clause-awaited : goal.returns-in_default-clause-awaited
returns-in_default-clause-awaited c = awaited_without c.args.self.now c.args.cursor (cursors_in c.args.cursors.now) c.requires.awaited (idle_to_end c.args.cursor.scope c.args.self.now.shared c.args.self.now.order.all c.args.cursor.from c.in_default.ensures)

pub serve_or_pass-requires-clause-awaited : goal.serve_or_pass-requires-clause-awaited
serve_or_pass-requires-clause-awaited c =
    let stock = c.args.self.now in
    let cursor = c.args.cursor in
    let ticket = c.in-Some.place.ticket in
    awaited_moved stock cursor (cursors_in c.args.cursors.now) ticket c.requires.awaited (idle_waits stock cursor.scope cursor.from ticket (idle_before cursor.scope stock.shared stock.order cursor.from c.in-Some.place c.stand_in_order.ensures.order c.in-Some.ensures))

pub returns-then-are_past-clause-nearer : goal.returns-then-are_past-clause-nearer
returns-then-are_past-clause-nearer c =
    IfOk-weaker c.serve_or_pass.result _ _ (λ found near none.
    omega (arith, near none, moved_left c.args.cursor (cursors_in c.args.cursors.now) c.in-Some.place.ticket c.in-Some.ensures.after)) c.serve_or_pass.ensures.nearer

pub returns-clause-awaited : goal.returns-clause-awaited
returns-clause-awaited c =
    let stock = c.args.self.now in
    let cursor = c.args.cursor in
    let ticket = c.in-Some.place.ticket in
    awaited_permuted stock (record cursor { from = ticket } ∷ cursors_in c.args.cursors.now) (cursors_in c.put.new.self) c.in_ok-put.ensures
    (awaited_moved stock cursor (cursors_in c.args.cursors.now) ticket c.requires.awaited (idle_waits stock cursor.scope cursor.from ticket (idle_before cursor.scope stock.shared stock.order cursor.from c.in-Some.place c.stand_in_order.ensures.order c.in-Some.ensures)))

pub returns-clause-nearer : goal.returns-clause-nearer
returns-clause-nearer c _ =
    let w = c.in-Some.ensures in
    let other = before_place c.args.cursor (cursors_in c.args.cursors.now) c.in-Some.place.ticket c.requires.least (λ past. absurd (clash c.are_past.result (c.are_past.ensures.1 past) c.if-are_past.false)) in
    let under = all_at (λ (v : W). v.1.ticket < c.args.self.now.order.next) c.args.self.now.order.all w.at (c.in-Some.place.key, w.waiter) w.there c.stand_in_order.ensures.order.under in
    nearer c.args.cursor (cursors_in c.args.cursors.now) (cursors_in c.put.new.self) c.in-Some.place.ticket c.in_ok-put.ensures other (omega (arith, other, under, w.ticket, c.requires.tickets))
