use Rattle.std.proofs.Common.{◌≡◌, ◌∙◌, List, Some, ap, arith, length, slice_get, sym, take, ◌≤◌}
use Rattle.std.specs.List.{flat_map}
use Rattle.std.proofs.lemmas.List.{take_all}
use Rattle.std.proofs.lemmas.Option.{get_or_from_slice_get, slice_get_within}
use Rattle.broker_state.specs.declared.subscription.Subscription.{Subscription}
use Rattle.broker_state.proofs.Weights.{sum_by-part}
use Rattle.waiting_order.specs.declared.waiters.Key.{Key}
use Rattle.waiting_order.specs.declared.waiters.Waiter.{Waiter}
use Rattle.waiting_order.specs.Waiting.{subs_of}
use Rattle.broker_tables.proofs.Waiters.{length_subs, sub_at}
use Rattle.snapshot_core.specs.Snapshots.{subscription}
use Rattle.snapshot_core.proofs.Capped.{next_counted}
use Rattle.snapshot_core.proofs.InOrder.{all_fit, length_spelled, listed_alike, no_stray, none_strays, strays}
use Rattle.snapshot_core.proofs.lengths.subscriptions_len.Goals as goal

pub subscription_len-requires : goal.subscription_len-requires
subscription_len-requires c =
    let s = c.args.broker.now.state in
    let at = c.loop-at.at in
    let subs = c.subscriptions_by_key-subs.result in
    let w : Key × Waiter = (c.in-Some._key.now, c.in-Some.waiter.now) in
    let there : slice_get subs at ≡ Some w = sym c.in-Some.ensures.entry in
    let sub = w.1.sub in
    let is = sub_at subs at w there in
    let none : strays sub ≡ 0 = omega (arith, sum_by-part strays (subs_of subs) at sub is, c.subscriptions_by_key-subs.ensures strays, none_strays s.subscriptions (all_fit s c.requires.sound)) in
    record { own = no_stray sub none }

pub loop-at-preserved : goal.loop-at-preserved
loop-at-preserved c =
    let s = c.args.broker.now.state in
    let at = c.loop-at.at in
    let subs = c.subscriptions_by_key-subs.result in
    let w : Key × Waiter = (c.in-Some._key.now, c.in-Some.waiter.now) in
    let there : slice_get subs at ≡ Some w = sym c.in-Some.ensures.entry in
    let sub = w.1.sub in
    let is = sub_at subs at w there in
    let within = slice_get_within (subs_of subs) at sub is in
    let here = sym (get_or_from_slice_get (subs_of subs) at sub sub is) in
    c.saturating_add-total.ensures ∙ next_counted subscription 4 c.loop-at.total c.subscription_len.result (subs_of subs) at sub within here c.loop-at.invariant c.subscription_len.ensures

pub returns : goal.returns
returns c =
    let s = c.args.broker.now.state in
    let subs = c.subscriptions_by_key-subs.result in
    let all = c.loop-at.invariant in
    let end : length (subs_of subs) ≤ c.loop-at.at = omega (arith, length_subs subs) in
    let long : length (flat_map subscription (take c.loop-at.at (subs_of subs))) ≡ length (flat_map subscription s.subscriptions) =
    ap (λ (l : List Subscription). length (flat_map subscription l)) (take_all c.loop-at.at (subs_of subs) end)
    ∙ length_spelled subscription (subs_of subs) ∙ c.subscriptions_by_key-subs.ensures (λ (x : Subscription). length (subscription x)) ∙ sym (length_spelled subscription s.subscriptions) in
    listed_alike subscription (take c.loop-at.at (subs_of subs)) s.subscriptions c.loop-at.total long all
