use Rattle.std.proofs.Common.{◌≡◌, ◌∙◌, Some, true, ap, arith, cond, count_by, length, refl, slice_get, sym, take}
use Rattle.std.proofs.lemmas.Option.{slice_get_read}
use Rattle.std.specs.BTreeSet as tree
use Rattle.broker_state.specs.Operations.{is_named}
use Rattle.broker_state.proofs.SeenCounts.{count_all, count_under, bit_small, unless_false, unless_true}
use Rattle.broker_state.proofs.SeenIds.{key_cmp, key_of, named_more, named_itself}
use Rattle.broker_state.proofs.part_checks.have_own_ids.Goals as goal

pub returns-then-not-branch : goal.returns-then-not-branch
returns-then-not-branch c =
    let subs = c.args.subscriptions.now in
    let at = c.loop-sub.sub-index in
    let sub = c.sub-item.result in
    let is : slice_get subs at ≡ Some sub = slice_get_read subs (length subs) at sub refl c.loop-sub-test.true c.sub-item.is in
    let known : tree.contains key_cmp c.loop-sub.seen (key_of sub.session sub.id) ≡ true = unless_true _ (sym c.in_ok-insert.ensures.added ∙ c.if-not-branch.true) in
    let before : count_by (is_named sub.session sub.id) (take at subs) ≡ 1 = c.loop-sub.invariant sub.session sub.id ∙ ap (λ b. cond b 1 0) known in
    let more = count_under (is_named sub.session sub.id) subs at sub is (named_itself sub) in
    (λ no. absurd cc, λ once. absurd (omega (arith, once sub.session sub.id, more, before)))

pub loop-sub-preserved : goal.loop-sub-preserved
loop-sub-preserved c =
    let subs = c.args.subscriptions.now in
    let at = c.loop-sub.sub-index in
    let sub = c.sub-item.result in
    let is : slice_get subs at ≡ Some sub = slice_get_read subs (length subs) at sub refl c.loop-sub-test.true c.sub-item.is in
    named_more subs at sub is (λ q. tree.contains key_cmp c.loop-sub.seen q) (λ q. tree.contains key_cmp c.insert.new.self q) (unless_false _ (sym c.in_ok-insert.ensures.added ∙ c.if-not-branch.false)) c.in_ok-insert.ensures.updates.0 c.loop-sub.invariant

pub returns : goal.returns
returns c =
    let subs = c.args.subscriptions.now in
    let at = c.loop-sub.sub-index in
    (λ _ session id. omega (arith, c.loop-sub.invariant session id, bit_small (tree.contains key_cmp c.loop-sub.seen (key_of session id)), count_all (is_named session id) subs at c.loop-sub-test.false), λ _. refl)
