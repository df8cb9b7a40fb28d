use Rattle.std.proofs.Common.{◌≡◌, ◌==◌, ℕ, List, ap, arith, count_by, true}
use Rattle.std.proofs.lemmas.List.Sums.{sum_by_more, sum_by_more_le}
use Rattle.line_core.specs.declared.message.Message.{Message}
use Rattle.broker_state.specs.declared.subscription.Subscription.{Subscription}
use Rattle.broker_state.proofs.part_checks.are_once.Goals as goal

abbrev in_flight : ℕ → List (ℕ × Message) → ℕ
in_flight delivery flight = count_by (λ d. d.0 == delivery) flight

abbrev in_flight_of : ℕ → Subscription → ℕ
in_flight_of delivery sub = in_flight delivery sub.unacknowledged

pub returns-then-not-branch : goal.returns-then-not-branch
returns-then-not-branch c =
    let subs = c.args.subscriptions.now in
    let at = c.loop-sub.sub-index in
    let sub = c.sub-item.result in
    (λ no. absurd cc, λ once. let yes : c.in_ok-are_new.field-0 ≡ true = c.in_ok-are_new.ensures.new.1 (λ delivery. omega (arith, c.loop-sub.invariant delivery, ap (in_flight delivery) c.as_slice.ensures.value, sum_by_more_le (in_flight_of delivery) subs at sub c.loop-sub-test.true, ap (in_flight_of delivery) c.sub-item.is, once delivery)) in absurd cc)

pub loop-sub-preserved : goal.loop-sub-preserved
loop-sub-preserved c =
    let subs = c.args.subscriptions.now in
    let at = c.loop-sub.sub-index in
    let sub = c.sub-item.result in
    let seen = c.in_ok-are_new.ensures.seen c.if-not-branch.false in
    λ delivery. omega (arith, seen delivery, c.loop-sub.invariant delivery, ap (in_flight delivery) c.as_slice.ensures.value, sum_by_more (in_flight_of delivery) subs at sub c.loop-sub-test.true, ap (in_flight_of delivery) c.sub-item.is)
