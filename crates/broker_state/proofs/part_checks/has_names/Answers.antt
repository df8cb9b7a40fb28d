use Rattle.std.proofs.Common.{◌≡◌, ◌≤◌, ◌↔◌, Bool, IsSome, IsTrue, List, count_by, false, length, refl, subst, sym}
use Rattle.std.specs.List.{AllByRecursion}
use Rattle.command_core.specs.Destinations.{is_queue}
use Rattle.broker_state.specs.Names.{Name}
use Rattle.broker_state.specs.Operations.{topic_of, uses}
use Rattle.broker_state.specs.PartsOf.{state_of_parts}
use Rattle.broker_state.specs.Sound.{HasNames, OwnsName}
use Rattle.broker_state.specs.declared.subscription.Subscription.{Subscription}
use Rattle.broker_state.proofs.Answered.{if_ok}
use Rattle.broker_state.proofs.part_checks.has_names.Goals as goal

abbrev AreOnce : List Subscription → Type 0
AreOnce subs = (name : Name) → count_by (uses name) subs ≤ 1

pub returns : goal.returns
returns c =
    let p = c.args.parts.now in
    let same = c.as_slice.ensures.value in
    let few : length p.durables.entries ≤ 256 = c.if-not-names_are_few.ensures.0 refl in
    let topics : AllByRecursion (λ durable. is_queue durable.1 ≡ false) p.durables.entries = c.if-not-are_of_topics.ensures.0 refl in
    let own : AllByRecursion (OwnsName (state_of_parts p)) p.subscriptions.items = c.if-not-own_names.ensures.0 refl in
    let lines : AllByRecursion (λ line. IsSome (topic_of line.0 p.durables.entries)) p.names.entries = c.if-not-are_bound.ensures.0 refl in
    if_ok (λ yes. IsTrue yes ↔ AreOnce c.as_slice.result.now) (λ yes. IsTrue yes ↔ HasNames (state_of_parts p)) (λ (yes : Bool) tells. (λ once. record { few = few; topics = topics; own = own; once = subst AreOnce same (tells.0 once); lines = lines }, λ has. tells.1 (subst AreOnce (sym same) has.once))) c.have_own_names.result c.have_own_names.ensures
