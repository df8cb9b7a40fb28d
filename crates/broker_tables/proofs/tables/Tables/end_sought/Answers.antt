use Rattle.std.proofs.Common.{◌∙◌, ℕ, Some, ap, arith, refl, remove, subst, sym}
use Rattle.std.specs.List.{AllByRecursion, sum_by}
use Rattle.std.proofs.lemmas.Option.{same_Some}
use Rattle.line_core.specs.declared.message.Message.{Message}
use Rattle.line_core.specs.Flights.{IsOver}
use Rattle.broker_state.specs.declared.subscription.Subscription.{Subscription}
use Rattle.broker_state.specs.States.{bytes, one, weight_of_subscription}
use Rattle.broker_state.specs.Waiting.{Shared, line_for}
use Rattle.broker_state.proofs.Weights.{all_removed, sum_by-removed}
use Rattle.waiting_order.specs.Soughts.{is_sought_of}
use Rattle.waiting_order.specs.Waiting.{Waiting, subs_of}
use Rattle.broker_tables.specs.Stocks.{shown, stocked}
use Rattle.broker_tables.specs.Tables.{TablesValue}
use Rattle.broker_tables.proofs.Dues.{due_left}
use Rattle.broker_tables.proofs.Operating.{without_one}
use Rattle.broker_tables.proofs.Waiters.{first_from, none_first, sub_at, subs_removed}
use Rattle.broker_tables.proofs.tables.Tables.end_sought.Goals as goal

pub returns-in_default-clause-ended : goal.returns-in_default-clause-ended
returns-in_default-clause-ended c =
    rw (← c.self.view_is) (none_first (is_sought_of c.args.session c.args.sought) c.self.inside.stock.order.all c.in_default.ensures.next, refl)

pub remove-sub-requires : goal.remove-sub-requires
remove-sub-requires c =
    let next = c.in-Some.ensures.next in
    (next.at, next.waiter, next.there)

pub let_go-requires : goal.let_go-requires
let_go-requires c =
    let next = c.in-Some.ensures.next in
    let ws = c.self.inside.stock.order.all in
    let removed = c.remove-sub.ensures next.at next.waiter next.there in
    let there = sub_at ws next.at (c.in-Some.place.key, next.waiter) next.there ∙ ap (λ (x : Subscription). Some x) (sym removed.0) in
    let part = λ (weight : Message → ℕ). sum_by-removed (weight_of_subscription weight) (subs_of ws) next.at c.remove-sub.result there in
    let kept = (c.self.invariant (ap (λ (b : TablesValue). b.broken) c.self.view_is ∙ c.requires.whole)).whole in
    record {
      held = record {
        within = kept.small;
        messages = omega (arith, kept.messages, part one);
        bytes = omega (arith, kept.bytes, part bytes);
      };
    }

pub invariant_of-self-2 : goal.invariant_of-self-2
invariant_of-self-2 c _ =
    let a = c.self.inside in
    let next = c.in-Some.ensures.next in
    let ws = a.stock.order.all in
    let subs = subs_of ws in
    let removed = c.remove-sub.ensures next.at next.waiter next.there in
    let there = sub_at ws next.at (c.in-Some.place.key, next.waiter) next.there ∙ ap (λ (x : Subscription). Some x) (sym removed.0) in
    let part = λ (weight : Message → ℕ). sum_by-removed (weight_of_subscription weight) subs next.at c.remove-sub.result there in
    let others = ap (λ (o : Waiting). subs_of o.all) removed.1 ∙ subs_removed ws next.at in
    let kept = c.self.invariant (ap (λ (b : TablesValue). b.broken) c.self.view_is ∙ c.requires.whole) in
    let tallied = kept.whole in
    let done = c.in_ok-let_go.ensures in
    let IsUnder = λ (x : Subscription). IsOver a.stock.next_delivery x.unacknowledged in
    record {
      whole = record {
        messages = omega (arith, tallied.messages, part one, ap (sum_by (weight_of_subscription one)) others, done.left.messages);
        bytes = omega (arith, tallied.bytes, part bytes, ap (sum_by (weight_of_subscription bytes)) others, done.left.bytes);
        few = omega (arith, tallied.few, done.left.fewer);
        small = omega (arith, tallied.small, done.left.lighter);
        next = subst (AllByRecursion IsUnder) (sym others) (all_removed IsUnder subs next.at tallied.next);
        deliveries = tallied.deliveries;
        tickets = omega (arith, tallied.tickets, ap (λ (o : Waiting). o.next) removed.1);
      };
      ready =
          let s = stocked a.stock in
          let t = stocked (record a.stock { order = c.remove-sub.new.self; shared = c.let_go.new.shared }) in
          due_left a.due.items s kept.ready t c.let_go.new.marked.items done.kept refl (λ x other. ap (λ (h : Shared). line_for h x) done.lines ∙ done.marked a.stock.shared x other) next.at others;
    }

pub returns-clause-ended : goal.returns-clause-ended
returns-clause-ended c =
    let a = c.self.inside in
    let next = c.in-Some.ensures.next in
    let ws = a.stock.order.all in
    let removed = c.remove-sub.ensures next.at next.waiter next.there in
    let there = sub_at ws next.at (c.in-Some.place.key, next.waiter) next.there ∙ ap (λ (x : Subscription). Some x) (sym removed.0) in
    let others = ap (λ (o : Waiting). subs_of o.all) removed.1 ∙ subs_removed ws next.at in
    rw (← c.self.view_is) (
      next.at,
      first_from (is_sought_of c.args.session c.args.sought) ws c.in-Some.place next,
      λ sub is. without_one (shown a.count a.sessions.entries a.durables a.stock) c.remove-sub.result sub (remove (subs_of ws) next.at) (subs_of c.remove-sub.new.self.all) c.let_go.new.shared (same_Some c.remove-sub.result sub (sym there ∙ is)) others c.in_ok-let_go.ensures.lines,
    )
