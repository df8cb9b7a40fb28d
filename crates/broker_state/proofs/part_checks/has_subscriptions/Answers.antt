use Rattle.std.proofs.Common.{◌≡◌, ◌≤◌, ◌↔◌, IsTrue, Bool, List, ℕ, count_by, length, true, rules, subst, sym}
use Rattle.std.specs.List.{AllByRecursion}
use Rattle.broker_state.specs.Operations.{is_named, is_of}
use Rattle.broker_state.specs.PartsOf.{state_of_parts}
use Rattle.broker_state.specs.Sound.{HasSubscriptions, window_of}
use Rattle.broker_state.specs.States.{is_open}
use Rattle.broker_state.specs.declared.subscription.Subscription.{Subscription}
use Rattle.broker_state.proofs.Answered.{if_ok}
use Rattle.broker_state.proofs.part_checks.has_subscriptions.Goals as goal

abbrev AreFew : List Subscription → Type 0
AreFew subs = (session : ℕ) → count_by (is_of session) subs ≤ 16

abbrev HaveOwnIds : List Subscription → Type 0
HaveOwnIds subs = (session : ℕ) (id : List ℕ) → count_by (is_named session id) subs ≤ 1

pub returns-then-not-branch : goal.returns-then-not-branch
returns-then-not-branch c =
    let same = c.as_slice-subscriptions.ensures.value in
    (λ no. absurd cc, λ has. let few = c.in_ok-are_few.ensures.1 (subst AreFew (sym same) has.few) in absurd cc)

pub returns : goal.returns
returns c =
    let subs = c.args.parts.now.subscriptions.items in
    let same = c.as_slice-subscriptions.ensures.value in
    let of_open : AllByRecursion (λ sub. is_open (state_of_parts c.args.parts.now) sub.session ≡ true) subs = search rules in
    let window : AllByRecursion (λ sub. length sub.unacknowledged ≤ window_of sub.mode) subs = search rules in
    let few = subst AreFew same (c.in_ok-are_few.ensures.0 (search rules)) in
    if_ok (λ yes. IsTrue yes ↔ HaveOwnIds c.as_slice-subscriptions.result.now) (λ yes. IsTrue yes ↔ HasSubscriptions (state_of_parts c.args.parts.now)) (λ (yes : Bool) tells. (λ own. record { of_open = of_open; ids = subst HaveOwnIds same (tells.0 own); few = few; window = window }, λ has. tells.1 (subst HaveOwnIds (sym same) has.ids))) c.have_own_ids.result c.have_own_ids.ensures
