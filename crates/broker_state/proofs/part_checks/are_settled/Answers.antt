use Rattle.std.proofs.Common.{◌≡◌, ◌≤◌, Some, ap, arith, length, refl, slice_get, sym, ◌∙◌}
use Rattle.std.proofs.lemmas.Option.{slice_get_read}
use Rattle.broker_state.specs.HandOut.{can_take}
use Rattle.broker_state.specs.PartsOf.{state_of_parts}
use Rattle.broker_state.proofs.Firsts.{none_to_end}
use Rattle.broker_state.proofs.Settled.{hands_nothing, hands_some}
use Rattle.broker_state.proofs.part_checks.are_settled.Goals as goal

pub returns-then-can_take : goal.returns-then-can_take
returns-then-can_take c =
    let subs = c.deref-sub-items.result.now in
    let at = c.loop-sub.sub-index in
    let sub = c.sub-item.result in
    let is : slice_get subs at ≡ Some sub = slice_get_read subs (length subs) at sub refl c.loop-sub-test.true c.sub-item.is in
    let there : slice_get c.args.parts.now.subscriptions.items at ≡ Some sub = ap (λ l. slice_get l at) (sym c.deref-sub-items.ensures.value) ∙ is in
    (λ no. absurd cc, λ nothing. absurd (hands_some (state_of_parts c.args.parts.now) at sub there (sym c.can_take.ensures ∙ c.if-can_take.true) c.loop-sub.invariant nothing))

pub returns : goal.returns
returns c =
    let s = state_of_parts c.args.parts.now in
    let past : length s.subscriptions ≤ c.loop-sub.sub-index = omega (arith, c.loop-sub-test.false, ap length c.deref-sub-items.ensures.value) in
    (λ _. hands_nothing s (none_to_end (can_take s) s.subscriptions c.loop-sub.sub-index past c.loop-sub.invariant), λ _. refl)
