use Rattle.std.proofs.Common.{◌≡◌, ◌↔◌, [], Bool, IfSome, IsTrue, List, false, refl, subst, sym, true}
use Rattle.std.specs.List.{AllByRecursion}
use Rattle.command_core.specs.Destinations.{is_queue}
use Rattle.broker_state.specs.Lists.{is_none}
use Rattle.broker_state.specs.Operations.{topic_of}
use Rattle.broker_state.specs.PartsOf.{state_of_parts}
use Rattle.broker_state.specs.Sound.{AreOnce, AreTo, HasLines, had_by}
use Rattle.broker_state.specs.Waiting.{is_own}
use Rattle.broker_state.specs.declared.subscription.Subscription.{Subscription}
use Rattle.broker_state.proofs.Answered.{if_ok}
use Rattle.broker_state.proofs.part_checks.has_lines.Goals as goal

abbrev HaveTheirOwn : List Subscription → Type 0
HaveTheirOwn subs = AllByRecursion (λ sub. AreTo sub.destination (had_by sub)) subs

abbrev WaitInTheirOwn : List Subscription → Type 0
WaitInTheirOwn subs = AllByRecursion (λ sub. is_own sub ≡ false → sub.line ≡ []) subs

abbrev HaveOnce : List Subscription → Type 0
HaveOnce subs = AllByRecursion (λ sub. AreOnce (had_by sub)) subs

pub returns : goal.returns
returns c =
    let p = c.args.parts.now in
    let same = c.as_slice-subscriptions.ensures.value in
    let queues : AllByRecursion (λ line. (is_queue line.0 ≡ true) × (is_none line.1 ≡ false) × AreTo line.0 line.1) p.queues.entries = c.if-not-are_of_queues.ensures.0 refl in
    let names : AllByRecursion (λ line. (is_none line.1 ≡ false) × IfSome (topic_of line.0 p.durables.entries) (λ topic. AreTo topic line.1)) p.names.entries = c.if-not-are_of_names.ensures.0 refl in
    let to : HaveTheirOwn p.subscriptions.items = subst HaveTheirOwn same (c.if-not-have_their_own.ensures.0 refl) in
    let own : WaitInTheirOwn p.subscriptions.items = subst WaitInTheirOwn same (c.if-not-wait_in_their_own.ensures.0 refl) in
    let in_queues = c.in_ok-are_once_in_queues.ensures.0 c.if-not-branch.false in
    let under_names = c.in_ok-are_once_under_names.ensures.0 c.if-not-branch-2.false in
    if_ok (λ yes. IsTrue yes ↔ HaveOnce c.as_slice-subscriptions.result.now) (λ yes. IsTrue yes ↔ HasLines (state_of_parts p)) (λ (yes : Bool) tells. (λ once. record { queues = queues; names = names; to = to; own = own; once_in_queues = in_queues; once_under_names = under_names; once_of_own = subst HaveOnce same (tells.0 once) }, λ has. tells.1 (subst HaveOnce (sym same) has.once_of_own))) c.have_once.result c.have_once.ensures
