use Rattle.std.proofs.Common.{◌≡◌, ◌∙◌, ℕ, Some, true, ap, arith, cond, count_by, length, refl, slice_get, sym, take}
use Rattle.std.proofs.lemmas.Option.{slice_get_read}
use Rattle.std.specs.BTreeSet as tree
use Rattle.broker_state.specs.Names.{Name}
use Rattle.broker_state.specs.Operations.{uses}
use Rattle.broker_state.proofs.SeenCounts.{bit_small, count_all, count_under, unless_false, unless_true}
use Rattle.broker_state.proofs.SeenNames.{Key, key_cmp, key_of, used_more, used_same, uses_own}
use Rattle.broker_state.proofs.part_checks.have_own_names.Goals.{in-Some+in_ok-insert+else-not-branch, in_default}
use Rattle.broker_state.proofs.part_checks.have_own_names.Goals as goal

abbrev noted : Name → tree.BTreeSet Key → ℕ
noted name seen = cond (tree.contains key_cmp seen (key_of name)) 1 0

pub returns-then-not-branch : goal.returns-then-not-branch
returns-then-not-branch c =
    let subs = c.args.subscriptions.now in
    let at = c.loop-sub.sub-index in
    let sub = c.sub-item.result in
    let name = c.in-Some.name in
    let is : slice_get subs at ≡ Some sub = slice_get_read subs (length subs) at sub refl c.loop-sub-test.true c.sub-item.is in
    let known : tree.contains key_cmp c.loop-sub.seen (key_of name) ≡ true = unless_true _ (sym c.in_ok-insert.ensures.added ∙ c.if-not-branch.true) in
    let before : count_by (uses name) (take at subs) ≡ 1 = c.loop-sub.invariant name ∙ ap (λ b. cond b 1 0) known in
    let more = count_under (uses name) subs at sub is (uses_own name sub c.in-Some.is) in
    (λ no. absurd cc, λ once. absurd (omega (arith, once name, more, before)))

pub loop-sub-preserved : goal.loop-sub-preserved
loop-sub-preserved c =
    let subs = c.args.subscriptions.now in
    let at = c.loop-sub.sub-index in
    let sub = c.sub-item.result in
    let is : slice_get subs at ≡ Some sub = slice_get_read subs (length subs) at sub refl c.loop-sub-test.true c.sub-item.is in
    elim c.match-sub.branch [ in-Some+in_ok-insert+else-not-branch w ↦ (λ name. used_more subs at sub is w.in-Some.name w.in-Some.is (λ q. tree.contains key_cmp c.loop-sub.seen q) (λ q. tree.contains key_cmp w.insert.new.self q) (unless_false _ (sym w.in_ok-insert.ensures.added ∙ w.if-not-branch.false)) w.in_ok-insert.ensures.updates.0 c.loop-sub.invariant name ∙ ap (noted name) (sym w.seen-is)) | in_default w ↦ (λ name. used_same subs at sub is w.in_default.is name ∙ c.loop-sub.invariant name ∙ ap (noted name) (sym w.seen-is)) ]

pub returns : goal.returns
returns c =
    let subs = c.args.subscriptions.now in
    let at = c.loop-sub.sub-index in
    (λ _ name. omega (arith, c.loop-sub.invariant name, bit_small (tree.contains key_cmp c.loop-sub.seen (key_of name)), count_all (uses name) subs at c.loop-sub-test.false), λ _. refl)
