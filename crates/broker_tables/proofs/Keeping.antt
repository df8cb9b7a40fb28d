use Rattle.std.proofs.Common.{◌≡◌, ◌<◌, ◌^◌, List, [], ℕ, sym, ap, subst, ◌∙◌, arith}
use Rattle.broker_state.specs.declared.subscription.Subscription.{Subscription}
use Rattle.broker_state.specs.Sound.{IsSound}
use Rattle.broker_state.specs.States.{IsNext, State, held_bytes, held_messages}
use Rattle.broker_state.specs.Waiting.{Shared}
use Rattle.waiting_order.specs.Waiting.{subs_of}
use Rattle.broker_tables.specs.declared.due.Due.{Due}
use Rattle.broker_tables.specs.declared.stock.Stock.{Stock}
use Rattle.broker_tables.specs.Dues.{AreDue}
use Rattle.broker_tables.specs.Stocks.{stocked}
use Rattle.broker_tables.specs.Tables.{IsKept}
use Rattle.broker_tables.proofs.Dues.{none_due, none_ready}

-- tables of a state that a broker can have need nobody to be due
pub kept_of : (p : State) (stock : Stock) (due : List Due) → stock.shared ≡ p.shared → subs_of stock.order.all ≡ p.subscriptions → due ≡ [] → IsSound p
    → stock.held.messages ≡ held_messages p → stock.held.bytes ≡ held_bytes p → stock.order.next < 2 ^ 63 → stock.next_delivery ≡ p.next_delivery → IsKept stock due
kept_of p stock due shared subs none sound messages weight small next =
    let made : ℕ → Shared → List Subscription → State = λ n h l. record { count = 0; next_delivery = n; sessions = []; durables = []; shared = h; subscriptions = l } in
    let is : stocked stock ≡ made p.next_delivery p.shared p.subscriptions =
    ap (λ n. made n stock.shared (subs_of stock.order.all)) next ∙ ap (λ h. made p.next_delivery h (subs_of stock.order.all)) shared ∙ ap (made p.next_delivery p.shared) subs in
    record {
      whole = record {
        messages = messages ∙ sym (ap held_messages is);
        bytes = weight ∙ sym (ap held_bytes is);
        few = omega (arith, messages, sound.limits.messages);
        small = omega (arith, weight, sound.limits.bytes);
        next = subst IsNext (sym is) sound.numbers.deliveries;
        deliveries = omega (arith, next, sound.numbers.most);
        tickets = omega (arith, small);
      };
      ready = subst (λ (d : List Due). AreDue d (stocked stock)) (sym none) (subst (AreDue []) (sym is) (none_due p p.subscriptions (none_ready p sound.limits.settled)));
    }
