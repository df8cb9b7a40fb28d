use Rattle.std.proofs.Common.{◌≡◌, ◌∙◌, [], List, Option, ap, arith, fold, refl, subst, sym, true, ℕ, length}
use Rattle.std.specs.List.{AllByRecursion, sum_by}
use Rattle.line_core.specs.Flights.{IsOver}
use Rattle.broker_state.specs.declared.subscription.Subscription.{Subscription}
use Rattle.broker_state.specs.States.{State, bytes, one, weight_of_subscription}
use Rattle.broker_state.specs.HandOut.{can_take}
use Rattle.broker_state.specs.Waiting.{Shared, returned}
use Rattle.broker_tables.specs.Dues.{is_due}
use Rattle.broker_tables.specs.Stocks.{stocked}
use Rattle.waiting_order.specs.Waiting.{Waiting, subs_of}
use Rattle.broker_tables.specs.Tables.{TablesValue}
use Rattle.broker_tables.proofs.tables.Tables.restart.Goals as goal

pub let_all_go-requires : goal.let_all_go-requires
let_all_go-requires c =
    let kept = (c.self.invariant (ap (λ (b : TablesValue). b.broken) c.self.view_is ∙ c.requires.whole)).whole in
    let subs = c.in_ok-subs.ensures.subs in
    record {
      held = record {
        few = kept.few;
        small = kept.small;
        messages = omega (arith, kept.messages, ap (sum_by (weight_of_subscription one)) subs);
        bytes = omega (arith, kept.bytes, ap (sum_by (weight_of_subscription bytes)) subs);
      };
    }

pub invariant_of-self-2 : goal.invariant_of-self-2
invariant_of-self-2 c _ =
    let kept = (c.self.invariant (ap (λ (b : TablesValue). b.broken) c.self.view_is ∙ c.requires.whole)).whole in
    let a = c.self.inside in
    let left = c.in_ok-let_all_go.ensures.left in
    let none = c.in_ok-subs.ensures.none in
    let gone = ap (λ (o : Waiting). subs_of o.all) none in
    let IsUnder = λ (x : Subscription). IsOver a.stock.next_delivery x.unacknowledged in
    record {
      whole = record {
        messages = omega (arith, left.messages, ap (sum_by (weight_of_subscription one)) gone);
        bytes = omega (arith, left.bytes, ap (sum_by (weight_of_subscription bytes)) gone);
        few = left.few;
        small = left.small;
        next = subst (AllByRecursion IsUnder) (sym gone) tt;
        deliveries = kept.deliveries;
        tickets = omega (arith, kept.tickets, ap (λ (o : Waiting). o.next) none);
      };
      ready = subst (λ (l : List Subscription). AllByRecursion (λ x. can_take (stocked (record { order = c.take_all.new.self; shared = c.let_all_go.new.shared; held = c.let_all_go.new.held; next_delivery = a.stock.next_delivery })) x ≡ true → is_due c.clear.new.self.items x ≡ true) l) (sym gone) tt;
    }

pub returns : goal.returns
returns c =
    let a = c.self.inside in
    let made : List (ℕ × Option (List ℕ)) → Shared → List Subscription → State = λ e h l. record { count = a.count; next_delivery = a.stock.next_delivery; sessions = e; durables = a.durables; shared = h; subscriptions = l } in
    let gone = ap (λ (o : Waiting). subs_of o.all) c.in_ok-subs.ensures.none in
    let lines = c.in_ok-let_all_go.ensures.lines ∙ ap (fold returned a.stock.shared) c.in_ok-subs.ensures.subs in
    let none : c.replace.new.dest.entries ≡ [] = ap (λ m. m.entries) c.replace.ensures.after ∙ c.new.ensures.empty in
    record {
      restarted = rw (← c.self.view_is) (ap (λ e. made e c.let_all_go.new.shared (subs_of c.take_all.new.self.all)) none ∙ ap (λ h. made [] h (subs_of c.take_all.new.self.all)) lines ∙ ap (made [] (fold returned a.stock.shared (subs_of a.stock.order.all))) gone);
      due = ap length c.clear.ensures.items;
      whole = refl;
    }
