use Rattle.std.proofs.Common.{◌==◌, ◌<◌, ◌≤◌, ◌^◌, ◌↔◌, Bool, IsTrue, List, ℕ, arith, count_by, refl, rules, subst, sym}
use Rattle.std.specs.List.{AllByRecursion, sum_by}
use Rattle.line_core.specs.Flights.{IsOver}
use Rattle.broker_state.specs.PartsOf.{state_of_parts}
use Rattle.broker_state.specs.Sound.{HasNumbers}
use Rattle.broker_state.specs.States.{standing}
use Rattle.broker_state.specs.declared.subscription.Subscription.{Subscription}
use Rattle.broker_state.proofs.Answered.{if_ok}
use Rattle.broker_state.proofs.part_checks.has_numbers.Goals as goal

abbrev AreOnce : List Subscription → Type 0
AreOnce subs = (delivery : ℕ) → sum_by (λ sub. count_by (λ d. d.0 == delivery) sub.unacknowledged) subs ≤ 1

pub returns : goal.returns
returns c =
    let p = c.args.parts.now in
    let same = c.as_slice-subscriptions.ensures.value in
    let AreOver = λ (subs : List Subscription). AllByRecursion (λ sub. IsOver p.next_delivery sub.unacknowledged) subs in
    let messages : AllByRecursion (λ m. m.number.command < p.count) (standing (state_of_parts p)) = search rules in
    let deliveries : AllByRecursion (λ sub. IsOver p.next_delivery sub.unacknowledged) p.subscriptions.items = subst AreOver same (c.if-not-is_over_all.ensures.0 refl) in
    let most : p.next_delivery ≤ 2 ^ 63 = omega arith in
    if_ok (λ yes. IsTrue yes ↔ AreOnce c.as_slice-subscriptions.result.now) (λ yes. IsTrue yes ↔ HasNumbers (state_of_parts p)) (λ (yes : Bool) tells. (λ once. record { messages = messages; deliveries = deliveries; most = most; once = subst AreOnce same (tells.0 once) }, λ has. tells.1 (subst AreOnce (sym same) has.once))) c.are_once.result c.are_once.ensures
