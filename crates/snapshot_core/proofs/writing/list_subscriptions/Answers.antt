use Rattle.std.specs.Int.{w32, to_be_bytes}
use Rattle.std.proofs.Common.{◌≡◌, ◌∙◌, List, Some, ap, arith, length, slice_get, sym}
use Rattle.std.proofs.lemmas.Grind.{common_steps}
use Rattle.std.proofs.lemmas.Option.{get_or_from_slice_get, gets, slice_get_within}
use Rattle.command_core.proofs.Walks.{all_more, put_more}
use Rattle.broker_state.specs.declared.subscription.Subscription.{Subscription}
use Rattle.snapshot_core.specs.Snapshots.{IsSubscription, subscription}
use Rattle.snapshot_core.proofs.Counted.{holds_few, waits_in_own}
use Rattle.snapshot_core.proofs.InOrder.{mapped_at}
use Rattle.snapshot_core.specs.Parts.{written}
use Rattle.snapshot_core.proofs.writing.list_subscriptions.Goals as goal

pub list_subscription-requires-clause-short : goal.list_subscription-requires-clause-short
list_subscription-requires-clause-short c =
    let s = c.args.broker.now.state in
    let at = c.loop-at.at in
    let found : slice_get c.in_ok-subs.subs.items at ≡ Some c.index.result.now = grind (arith, common_steps, gets) in
    let sub = c.index.result.now.now in
    let is : slice_get s.subscriptions at ≡ Some sub = ap (λ (l : List Subscription). slice_get l at) (sym c.in_ok-subs.ensures) ∙ mapped_at (λ x. x.now) c.in_ok-subs.subs.items at c.index.result.now found in
    (holds_few s c.requires.sound at sub is).0

pub list_subscription-requires-clause-few : goal.list_subscription-requires-clause-few
list_subscription-requires-clause-few c =
    let s = c.args.broker.now.state in
    let at = c.loop-at.at in
    let found : slice_get c.in_ok-subs.subs.items at ≡ Some c.index.result.now = grind (arith, common_steps, gets) in
    let sub = c.index.result.now.now in
    let is : slice_get s.subscriptions at ≡ Some sub = ap (λ (l : List Subscription). slice_get l at) (sym c.in_ok-subs.ensures) ∙ mapped_at (λ x. x.now) c.in_ok-subs.subs.items at c.index.result.now found in
    (holds_few s c.requires.sound at sub is).1

pub list_subscription-requires-clause-own : goal.list_subscription-requires-clause-own
list_subscription-requires-clause-own c =
    let s = c.args.broker.now.state in
    let at = c.loop-at.at in
    let found : slice_get c.in_ok-subs.subs.items at ≡ Some c.index.result.now = grind (arith, common_steps, gets) in
    let sub = c.index.result.now.now in
    let is : slice_get s.subscriptions at ≡ Some sub = ap (λ (l : List Subscription). slice_get l at) (sym c.in_ok-subs.ensures) ∙ mapped_at (λ x. x.now) c.in_ok-subs.subs.items at c.index.result.now found in
    waits_in_own s c.requires.sound at sub is

pub loop-at-preserved : goal.loop-at-preserved
loop-at-preserved c =
    let s = c.args.broker.now.state in
    let at = c.loop-at.at in
    let found : slice_get c.in_ok-subs.subs.items at ≡ Some c.index.result.now = grind (arith, common_steps, gets) in
    let sub = c.index.result.now.now in
    let is : slice_get s.subscriptions at ≡ Some sub = ap (λ (l : List Subscription). slice_get l at) (sym c.in_ok-subs.ensures) ∙ mapped_at (λ x. x.now) c.in_ok-subs.subs.items at c.index.result.now found in
    let turn = c.loop-at in
    let within = slice_get_within s.subscriptions at sub is in
    let here = sym (get_or_from_slice_get s.subscriptions at sub sub is) in
    let done = c.in_ok-list_subscription.ensures in
    record {
      put = put_more subscription (written c.args.parts.now.items) (to_be_bytes w32 (length s.subscriptions)) (written turn.parts.items) _ s.subscriptions at sub within here turn.invariant.put done.put;
      form = all_more IsSubscription s.subscriptions at sub within here turn.invariant.form done.form;
    }
