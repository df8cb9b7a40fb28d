use Rattle.std.proofs.Common.{◌<◌, List, refl, subst, sym}
use Rattle.std.specs.List.{AllByRecursion}
use Rattle.line_core.specs.declared.message.Message.{Message}
use Rattle.broker_state.specs.PartsOf.{state_of_parts}
use Rattle.broker_state.specs.Sound.{had_by}
use Rattle.broker_state.specs.declared.subscription.Subscription.{Subscription}
use Rattle.broker_state.proofs.StandingParts.{all_standing, standing_in_names, standing_in_queues, standing_in_subs}
use Rattle.broker_state.proofs.part_checks.messages_are_counted.Goals as goal

pub returns-then-not-lines_are_counted : goal.returns-then-not-lines_are_counted
returns-then-not-lines_are_counted c =
    let P = λ (m : Message). m.number.command < c.args.parts.now.count in
    (λ no. absurd cc, λ all. c.if-not-lines_are_counted.ensures.1 (standing_in_names P (state_of_parts c.args.parts.now) all))

pub returns-then-not-lines_are_counted-2 : goal.returns-then-not-lines_are_counted-2
returns-then-not-lines_are_counted-2 c =
    let P = λ (m : Message). m.number.command < c.args.parts.now.count in
    (λ no. absurd cc, λ all. c.if-not-lines_are_counted-2.ensures.1 (standing_in_queues P (state_of_parts c.args.parts.now) all))

pub returns : goal.returns
returns c =
    let P = λ (m : Message). m.number.command < c.args.parts.now.count in
    let s = state_of_parts c.args.parts.now in
    let same = c.as_slice.ensures.value in
    let Are = λ (subs : List Subscription). AllByRecursion (λ sub. AllByRecursion P (had_by sub)) subs in
    (λ yes. all_standing P s (c.if-not-lines_are_counted.ensures.0 refl) (c.if-not-lines_are_counted-2.ensures.0 refl) (subst Are same (c.have_counted.ensures.0 yes)), λ all. c.have_counted.ensures.1 (subst Are (sym same) (standing_in_subs P s all)))
