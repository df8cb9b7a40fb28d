use Rattle.std.proofs.Common.{◌≡◌, Some, length, refl, slice_get, true}
use Rattle.std.proofs.lemmas.Option.{slice_get_read}
use Rattle.broker_state.specs.Sound.{AreOnce, had_by}
use Rattle.broker_state.proofs.Alls.{all_more}
use Rattle.broker_state.proofs.Weights.{all_at}
use Rattle.broker_state.proofs.part_checks.have_once.Goals as goal

pub returns-then-not-branch : goal.returns-then-not-branch
returns-then-not-branch c =
    let subs = c.args.subscriptions.now in
    let at = c.loop-sub.sub-index in
    let sub = c.sub-item.result in
    let is : slice_get subs at ≡ Some sub = slice_get_read subs (length subs) at sub refl c.loop-sub-test.true c.sub-item.is in
    (λ no. absurd cc, λ all. let yes : c.in_ok-has_once.field-0 ≡ true = c.in_ok-has_once.ensures.1 (all_at (λ s. AreOnce (had_by s)) subs at sub is all) in absurd cc)

pub loop-sub-preserved : goal.loop-sub-preserved
loop-sub-preserved c =
    let subs = c.args.subscriptions.now in
    let at = c.loop-sub.sub-index in
    let sub = c.sub-item.result in
    let is : slice_get subs at ≡ Some sub = slice_get_read subs (length subs) at sub refl c.loop-sub-test.true c.sub-item.is in
    all_more (λ s. AreOnce (had_by s)) subs at sub is c.loop-sub.invariant (c.in_ok-has_once.ensures.0 c.if-not-branch.false)
