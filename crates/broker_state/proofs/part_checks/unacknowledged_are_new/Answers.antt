use Rattle.std.proofs.Common.{◌≡◌, ◌∙◌, Some, None, ap, arith, cond, false, length, refl, slice_get, take, true}
use Rattle.std.proofs.lemmas.List.{take_all}
use Rattle.std.proofs.lemmas.Option.{slice_get_read}
use Rattle.std.specs.BTreeMap.{is_at}
use Rattle.std.specs.BTreeSet as tree
use Rattle.broker_state.specs.Kept.{unacknowledged_by}
use Rattle.broker_state.specs.Seen.{count_of, seen_at, seen_cmp}
use Rattle.broker_state.proofs.SeenCounts.{bit_small}
use Rattle.broker_state.proofs.SeenNumbers.{in_flight, itself, unacknowledged_more, unacknowledged_part}
use Rattle.broker_state.proofs.part_checks.unacknowledged_are_new.Goals.{in-Some+in_ok-deliveries_are_new+else-not-branch, in_default}
use Rattle.broker_state.proofs.part_checks.unacknowledged_are_new.Goals as goal

pub loop-sub-init : goal.loop-sub-init
loop-sub-init g c = λ takes tells key n. omega arith

pub returns-then-not-branch : goal.returns-then-not-branch
returns-then-not-branch g c =
    let subs = c.args.subscriptions.now in
    let at = c.loop-sub.sub-index in
    let sub = c.sub-item.result in
    let key = c.in-Some.key.now in
    let is : slice_get subs at ≡ Some sub = slice_get_read subs (length subs) at sub refl c.loop-sub-test.true c.sub-item.is in
    λ takes tells.
    let own : takes key sub ≡ true = tells _ (Some c.in-Some.key) c.in-Some.ensures key ∙ itself g.K.Ord.cmp g.met.K.Ord.total key in
    (λ no. absurd cc, λ once. let yes : c.in_ok-deliveries_are_new.field-0 ≡ true = c.in_ok-deliveries_are_new.ensures.new.1 (λ n. omega (arith, once key n, c.loop-sub.invariant takes tells key n, unacknowledged_part (takes key) n subs at sub is, ap (λ b. cond b (in_flight n sub.unacknowledged) 0) own, ap (in_flight n) c.as_slice.ensures.value)) in absurd cc)

pub loop-sub-preserved : goal.loop-sub-preserved
loop-sub-preserved g c =
    let cmp = g.K.Ord.cmp in
    let subs = c.args.subscriptions.now in
    let at = c.loop-sub.sub-index in
    let sub = c.sub-item.result in
    let is : slice_get subs at ≡ Some sub = slice_get_read subs (length subs) at sub refl c.loop-sub-test.true c.sub-item.is in
    elim c.match-key_of.branch [ in-Some+in_ok-deliveries_are_new+else-not-branch w ↦ (λ takes tells q n. let told : takes q sub ≡ is_at (cmp q) w.in-Some.key.now = tells _ (Some w.in-Some.key) w.in-Some.ensures q in omega (arith, c.loop-sub.invariant takes tells q n, w.in_ok-deliveries_are_new.ensures.seen w.if-not-branch.false q n, unacknowledged_more (takes q) n subs at sub is, ap (λ b. cond b (in_flight n sub.unacknowledged) 0) told, ap (λ ds. cond (is_at (cmp q) w.in-Some.key.now) (in_flight n ds) 0) w.as_slice.ensures.value, ap (λ seen. seen_at cmp seen q n) w.seen-is)) | in_default w ↦ (λ takes tells q n. let told : takes q sub ≡ false = tells _ None w.in_default.ensures q in omega (arith, c.loop-sub.invariant takes tells q n, unacknowledged_more (takes q) n subs at sub is, ap (λ b. cond b (in_flight n sub.unacknowledged) 0) told, ap (λ seen. seen_at cmp seen q n) w.seen-is)) ]

pub returns : goal.returns
returns g c =
    let subs = c.args.subscriptions.now in
    let all : take c.loop-sub.sub-index subs ≡ subs = take_all c.loop-sub.sub-index subs (omega (arith, c.loop-sub-test.false)) in
    λ takes tells. (λ _ key n. omega (arith, c.loop-sub.invariant takes tells key n, ap (λ l. count_of n (unacknowledged_by (takes key) l)) all, bit_small (tree.contains (seen_cmp g.K.Ord.cmp) c.loop-sub.seen (record { ref_ptr = (0, 0); now = key }, n))), λ _. refl)
