use Rattle.std.proofs.Common.{◌≡◌, ◌<◌, ◌≤◌, ◌+◌, ◌∷◌, ◌∙◌, List, false, ap, arith, slice_get, subst, sym, ℕ}
use Rattle.std.specs.List.{AllByRecursion}
use Rattle.std.proofs.lemmas.Option.{same_Some}
use Rattle.broker_state.specs.HandOut.{can_take}
use Rattle.broker_state.proofs.Weights.{all_at}
use Rattle.waiting_order.proofs.Rising.{rising_same}
use Rattle.broker_tables.specs.declared.cursors.Cursor.{Cursor}
use Rattle.broker_tables.specs.Cursors.{IsReadiness, cursors_in}
use Rattle.broker_tables.specs.declared.stock.Readiness.{Readiness}
use Rattle.broker_tables.specs.Stocks.{stocked}
use Rattle.broker_tables.proofs.Awaiting.{awaited_moved, awaited_permuted, awaited_without, nearer, nearer_gone, ready_at}
use Rattle.broker_tables.proofs.Waiters.{W}
use Rattle.broker_tables.proofs.stock.Stock.serve_or_pass.Goals as goal

pub returns-in_ok-put-in-Ready-clause-ready : goal.returns-in_ok-put-in-Ready-clause-ready
returns-in_ok-put-in-Ready-clause-ready c =
    let k = c.requires.there.at in
    let s = c.requires.there.waiter in
    let there = c.requires.there.there in
    let cursors : List Cursor = c.args.cursor ∷ cursors_in c.args.cursors.now in
    let itself : c.args.cursor.from ≤ c.args.cursor.from = omega arith in
    let least = subst (λ (n : ℕ). AllByRecursion (λ (d : Cursor). n ≤ d.from) cursors) c.requires.here (itself, c.requires.least) in
    ready_at c.args.self.now cursors c.args.place k s c.stand_in_order.ensures.order c.requires.awaited least there c.requires.there.ticket (subst (λ (r : Readiness). IsReadiness c.args.self.now c.args.cursor.scope c.args.place.key r) c.in-Ready.is c.readiness.ensures k s there)

pub returns-in_ok-put-in-Ready-clause-awaited : goal.returns-in_ok-put-in-Ready-clause-awaited
returns-in_ok-put-in-Ready-clause-awaited c =
    awaited_permuted c.args.self.now (c.args.cursor ∷ cursors_in c.args.cursors.now) (cursors_in c.put.new.self) c.in_ok-put-in-Ready.ensures c.requires.awaited

pub overflow_add-place : goal.overflow_add-place
overflow_add-place c =
    let under = all_at (λ (v : W). v.1.ticket < c.args.self.now.order.next) c.args.self.now.order.all c.requires.there.at (c.args.place.key, c.requires.there.waiter) c.requires.there.there c.stand_in_order.ensures.order.under in
    omega (arith, under, c.requires.there.ticket, c.requires.tickets)

pub returns-in_ok-put-in-Held-clause-awaited : goal.returns-in_ok-put-in-Held-clause-awaited
returns-in_ok-put-in-Held-clause-awaited c =
    let stock = c.args.self.now in
    let cursors = cursors_in c.args.cursors.now in
    let k = c.requires.there.at in
    let s = c.requires.there.waiter in
    let there = c.requires.there.there in
    let ticket = c.args.place.ticket + 1 in
    let fails : can_take (stocked stock) s.sub ≡ false = subst (λ (r : Readiness). IsReadiness stock c.args.cursor.scope c.args.place.key r) c.in-Held.is c.readiness.ensures k s there in
    awaited_permuted stock (record c.args.cursor { from = ticket } ∷ cursors) (cursors_in c.put-in-Held.new.self) c.in_ok-put-in-Held.ensures (awaited_moved stock c.args.cursor cursors ticket c.requires.awaited (λ i w is after before under.
    let same : i ≡ k = rising_same (λ (v : W). v.1.ticket) stock.order.all i k w (c.args.place.key, s) c.stand_in_order.ensures.order.rising is there (omega (arith, after, before, c.requires.here, c.requires.there.ticket)) in
    let here : w ≡ (c.args.place.key, s) = same_Some w (c.args.place.key, s) (sym is ∙ ap (slice_get stock.order.all) same ∙ there) in
    ap (λ (v : W). can_take (stocked stock) v.1.sub) here ∙ fails))

pub returns-in_ok-put-in-Held-clause-nearer : goal.returns-in_ok-put-in-Held-clause-nearer
returns-in_ok-put-in-Held-clause-nearer c _ =
    let under = all_at (λ (v : W). v.1.ticket < c.args.self.now.order.next) c.args.self.now.order.all c.requires.there.at (c.args.place.key, c.requires.there.waiter) c.requires.there.there c.stand_in_order.ensures.order.under in
    nearer c.args.cursor (cursors_in c.args.cursors.now) (cursors_in c.put-in-Held.new.self) (c.args.place.ticket + 1) c.in_ok-put-in-Held.ensures (omega (arith, c.requires.here)) (omega (arith, c.requires.here, under, c.requires.there.ticket, c.requires.tickets))

pub returns-in-Idle-clause-awaited : goal.returns-in-Idle-clause-awaited
returns-in-Idle-clause-awaited c =
    awaited_without c.args.self.now c.args.cursor (cursors_in c.args.cursors.now) c.requires.awaited
    (subst (λ (r : Readiness). IsReadiness c.args.self.now c.args.cursor.scope c.args.place.key r) c.in-Idle.is c.readiness.ensures c.args.cursor.from)

pub returns-in-Idle-clause-nearer : goal.returns-in-Idle-clause-nearer
returns-in-Idle-clause-nearer c _ =
    let under = all_at (λ (v : W). v.1.ticket < c.args.self.now.order.next) c.args.self.now.order.all c.requires.there.at (c.args.place.key, c.requires.there.waiter) c.requires.there.there c.stand_in_order.ensures.order.under in
    nearer_gone c.args.cursor (cursors_in c.args.cursors.now) (omega (arith, c.requires.here, under, c.requires.there.ticket, c.requires.tickets))
