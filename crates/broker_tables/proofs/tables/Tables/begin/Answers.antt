use Rattle.std.proofs.Common.{◌<◌, ◌∙◌, List, count_by, ℕ, ap, arith, refl, subst, sym}
use Rattle.std.specs.List.{AllByRecursion, sum_by}
use Rattle.std.proofs.lemmas.List.Sums.{sum_by_push}
use Rattle.line_core.specs.declared.message.Message.{Message}
use Rattle.line_core.specs.Flights.{IsOver}
use Rattle.broker_state.specs.declared.subscription.Subscription.{Subscription}
use Rattle.broker_state.specs.Operations.{is_of}
use Rattle.broker_state.specs.States.{bytes, one, weight_of_subscription}
use Rattle.broker_tables.specs.Stocks.{stocked}
use Rattle.waiting_order.specs.Waiting.{subs_of}
use Rattle.broker_tables.specs.Tables.{TablesValue}
use Rattle.broker_tables.proofs.Dues.{all_with, due_begun, of_itself}
use Rattle.broker_tables.proofs.tables.Tables.begin.Goals as goal

pub invariant_of-self-2 : goal.invariant_of-self-2
invariant_of-self-2 c =
    let a = c.self.inside in
    let sub = c.args.sub in
    let kept = c.self.invariant (ap (λ (b : TablesValue). b.broken) c.self.view_is ∙ c.bind.ensures.flag ∙ c.requires.whole) in
    let tallied = kept.whole in
    let subs = subs_of a.stock.order.all in
    let s = stocked a.stock in
    let t = stocked (record a.stock { order = c.enter.new.order }) in
    let more = c.in_ok-enter.ensures.waits in
    let IsUnder = λ (x : Subscription). IsOver a.stock.next_delivery x.unacknowledged in
    λ _. record {
      whole = record {
        messages = omega (arith, tallied.messages, ap (sum_by (weight_of_subscription one)) more, sum_by_push (weight_of_subscription one) subs sub, ap (sum_by one) c.requires.fresh.0, ap (sum_by (λ (d : ℕ × Message). one d.1)) c.requires.fresh.1);
        bytes = omega (arith, tallied.bytes, ap (sum_by (weight_of_subscription bytes)) more, sum_by_push (weight_of_subscription bytes) subs sub, ap (sum_by bytes) c.requires.fresh.0, ap (sum_by (λ (d : ℕ × Message). bytes d.1)) c.requires.fresh.1);
        few = tallied.few;
        small = tallied.small;
        next = subst (AllByRecursion IsUnder) (sym more) (all_with IsUnder subs sub tallied.next (subst (IsOver a.stock.next_delivery) (sym c.requires.fresh.1) tt));
        deliveries = tallied.deliveries;
        tickets = omega (arith, c.in_ok-enter.ensures.number);
      };
      ready = due_begun a.due.items s kept.ready t c.enter.new.marked.items c.in_ok-enter.ensures.kept refl (λ x other. refl) sub more (c.in_ok-enter.ensures.marked sub (of_itself sub));
    }

pub enter-requires : goal.enter-requires
enter-requires c =
    let same = ap (λ (b : TablesValue). b.state.subscriptions) c.self.view_is ∙ c.bind.ensures.subscriptions in
    subst (λ (l : List Subscription). count_by (is_of c.args.sub.session) l < 16) (sym same) c.requires.few
