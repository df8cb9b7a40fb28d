use Rattle.std.proofs.Common.{◌≡◌, ◌∙◌, Some, ap, arith, refl, slice_get, subst, sym}
use Rattle.std.specs.List.{AllByRecursion, sum_by}
use Rattle.std.proofs.lemmas.Bool.{and_parts}
use Rattle.line_core.specs.Flights.{IsOver, has_delivery}
use Rattle.broker_state.specs.declared.subscription.Subscription.{Subscription}
use Rattle.broker_state.specs.Operations.{is_of, settled_by}
use Rattle.broker_state.specs.States.{bytes, one, weight_of_subscription}
use Rattle.broker_tables.specs.Tables.{TablesValue}
use Rattle.broker_tables.proofs.Operating.{acknowledged_first, acknowledged_none}
use Rattle.broker_state.proofs.Weights.{all_changed, over_settled_by, sum_by-changed, sum_by-part, weight-settled_by}
use Rattle.waiting_order.specs.Waiting.{Waiting, subs_of}
use Rattle.broker_tables.specs.Stocks.{stocked}
use Rattle.broker_tables.proofs.Dues.{due_changed}
use Rattle.broker_tables.proofs.Waiters.{sub_at, subs_changed}
use Rattle.broker_tables.proofs.tables.Tables.acknowledge.Goals as goal

pub returns-in_default-clause-acknowledged : goal.returns-in_default-clause-acknowledged
returns-in_default-clause-acknowledged c =
    rw (← c.self.view_is) (acknowledged_none _ c.args.session c.args.delivery c.in_default.ensures)

pub settle-requires : goal.settle-requires
settle-requires c =
    let first = c.in-Some.ensures in
    let ws = c.self.inside.stock.order.all in
    let sub = first.waiter.sub in
    let there = sub_at ws first.at (c.in-Some.key, first.waiter) first.there in
    (first.at, first.waiter, first.there, (and_parts (is_of c.args.session sub) (has_delivery c.args.delivery sub.unacknowledged) (first.first.passing sub there)).1)

pub let_deliveries_go-requires-clause-messages : goal.let_deliveries_go-requires-clause-messages
let_deliveries_go-requires-clause-messages c =
    let kept = (c.self.invariant (ap (λ (b : TablesValue). b.broken) c.self.view_is ∙ c.requires.whole)).whole in
    let first = c.in-Some.ensures in
    let ws = c.self.inside.stock.order.all in
    let there = sub_at ws first.at (c.in-Some.key, first.waiter) first.there in
    let given = c.as_slice.ensures.value ∙ c.in_ok-settled.ensures.settled first.at first.waiter first.there in
    omega (arith, weight-settled_by one c.args.delivery first.waiter.sub, sum_by-part (weight_of_subscription one) (subs_of ws) first.at first.waiter.sub there, ap (sum_by (λ delivery. one delivery.1)) given, kept.messages)

pub let_deliveries_go-requires-clause-bytes : goal.let_deliveries_go-requires-clause-bytes
let_deliveries_go-requires-clause-bytes c =
    let kept = (c.self.invariant (ap (λ (b : TablesValue). b.broken) c.self.view_is ∙ c.requires.whole)).whole in
    let first = c.in-Some.ensures in
    let ws = c.self.inside.stock.order.all in
    let there = sub_at ws first.at (c.in-Some.key, first.waiter) first.there in
    let given = c.as_slice.ensures.value ∙ c.in_ok-settled.ensures.settled first.at first.waiter first.there in
    omega (arith, weight-settled_by bytes c.args.delivery first.waiter.sub, sum_by-part (weight_of_subscription bytes) (subs_of ws) first.at first.waiter.sub there, ap (sum_by (λ delivery. bytes delivery.1)) given, kept.bytes)

pub invariant_of-self-2 : goal.invariant_of-self-2
invariant_of-self-2 c _ =
    let kept = c.self.invariant (ap (λ (b : TablesValue). b.broken) c.self.view_is ∙ c.requires.whole) in
    let tallied = kept.whole in
    let a = c.self.inside in
    let first = c.in-Some.ensures in
    let ws = a.stock.order.all in
    let subs = subs_of ws in
    let at = first.at in
    let sub = first.waiter.sub in
    let there = sub_at ws at (c.in-Some.key, first.waiter) first.there in
    let given = c.as_slice.ensures.value ∙ c.in_ok-settled.ensures.settled at first.waiter first.there in
    let changes = c.in_ok-settled.ensures.unsettled at first.waiter first.there in
    let left = ap (λ (o : Waiting). subs_of o.all) changes ∙ subs_changed (settled_by c.args.delivery) ws at in
    let IsUnder = λ (x : Subscription). IsOver a.stock.next_delivery x.unacknowledged in
    record {
      whole = record {
        messages = omega (arith, tallied.messages, weight-settled_by one c.args.delivery sub, sum_by-changed (weight_of_subscription one) (settled_by c.args.delivery) subs at sub there, ap (sum_by (weight_of_subscription one)) left, ap (sum_by (λ delivery. one delivery.1)) given);
        bytes = omega (arith, tallied.bytes, weight-settled_by bytes c.args.delivery sub, sum_by-changed (weight_of_subscription bytes) (settled_by c.args.delivery) subs at sub there, ap (sum_by (weight_of_subscription bytes)) left, ap (sum_by (λ delivery. bytes delivery.1)) given);
        few = omega (arith, tallied.few);
        small = omega (arith, tallied.small);
        next = subst (AllByRecursion IsUnder) (sym left) (all_changed IsUnder (settled_by c.args.delivery) (over_settled_by a.stock.next_delivery c.args.delivery) subs at tallied.next);
        deliveries = tallied.deliveries;
        tickets = omega (arith, tallied.tickets, ap (λ (o : Waiting). o.next) changes);
      };
      ready =
          let s = stocked a.stock in
          let t = stocked (record a.stock { order = c.settle.new.self }) in
          let mine = λ (x : Subscription) (is : slice_get subs at ≡ Some x). (and_parts (is_of c.args.session x) (has_delivery c.args.delivery x.unacknowledged) (first.first.passing x is)).0 in
          due_changed a.due.items s kept.ready t c.mark.new.marked.items c.in_ok-mark.ensures.kept refl (λ x other. refl) at (settled_by c.args.delivery) left (λ x is. c.in_ok-mark.ensures.marked (settled_by c.args.delivery x) (mine x is));
    }

pub returns-clause-acknowledged : goal.returns-clause-acknowledged
returns-clause-acknowledged c =
    let first = c.in-Some.ensures in
    let ws = c.self.inside.stock.order.all in
    let left = ap (λ (o : Waiting). subs_of o.all) (c.in_ok-settled.ensures.unsettled first.at first.waiter first.there) ∙ subs_changed (settled_by c.args.delivery) ws first.at in
    rw (← c.self.view_is) (acknowledged_first _ c.args.session c.args.delivery first.at (subs_of c.settle.new.self.all) first.first left)
