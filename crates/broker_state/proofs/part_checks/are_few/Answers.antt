use Rattle.std.proofs.Common.{◌≡◌, ◌∙◌, Some, ap, arith, count_by, eq-eqb, length, refl, slice_get, sym, take, unwrap_or}
use Rattle.std.proofs.lemmas.Option.{slice_get_read}
use Rattle.broker_state.specs.Operations.{is_of}
use Rattle.broker_state.proofs.SeenCounts.{count_all, count_under}
use Rattle.broker_state.proofs.part_checks.are_few.Goals as goal

pub returns-then-count-eq-MOST_SUBSCRIPTIONS : goal.returns-then-count-eq-MOST_SUBSCRIPTIONS
returns-then-count-eq-MOST_SUBSCRIPTIONS c =
    let subs = c.args.subscriptions.now in
    let at = c.loop-sub.sub-index in
    let sub = c.sub-item.result in
    let is : slice_get subs at ≡ Some sub = slice_get_read subs (length subs) at sub refl c.loop-sub-test.true c.sub-item.is in
    let full : count_by (is_of sub.session) (take at subs) ≡ 16 = c.loop-sub.invariant.counted sub.session ∙ sym (c.unwrap_or-count.ensures ∙ ap (λ o. unwrap_or o 0) (c.copied.ensures ∙ c.get.ensures.value)) ∙ c.if-count-eq-MOST_SUBSCRIPTIONS.true in
    let more = count_under (is_of sub.session) subs at sub is (eq-eqb sub.session sub.session refl) in
    (λ no. absurd cc, λ few. absurd (omega (arith, few sub.session, more, full)))

pub returns : goal.returns
returns c =
    (λ _ session. omega (arith, c.loop-sub.invariant.counted session, c.loop-sub.invariant.few session, count_all (is_of session) c.args.subscriptions.now c.loop-sub.sub-index c.loop-sub-test.false), λ _. refl)
