use Rattle.std.proofs.Common.{◌≡◌, ◌≤◌, ◌+◌, ◌∙◌, Some, ap, arith, cond, length, refl, rules, slice_get, sym, take, true}
use Rattle.std.specs.BTreeMap.{is_at}
use Rattle.std.specs.BTreeSet as tree
use Rattle.line_core.proofs.RisingLines.{by_number-total}
use Rattle.line_core.specs.Lines.{by_number, is_same}
use Rattle.broker_state.specs.Seen.{count_of, seen_at, seen_cmp}
use Rattle.broker_state.proofs.SeenCounts.{bit_small, count_all, count_under, unless_false, unless_true}
use Rattle.broker_state.proofs.SeenNumbers.{counted_more, itself, number_noted, under_key}
use Rattle.broker_state.proofs.part_checks.line_is_new.Goals as goal

pub returns-then-not-branch-clause-new : goal.returns-then-not-branch-clause-new
returns-then-not-branch-clause-new g c =
    let cmp = g.K.Ord.cmp in
    let line = c.args.line.now in
    let at = c.loop-at.at in
    let m = c.unwrap.result.now in
    let k = c.args.key.now in
    let is : slice_get line at ≡ Some m = search rules in
    let known : tree.contains (seen_cmp cmp) c.loop-at.seen (record { ref_ptr = (0, 0); now = k }, m.number) ≡ true = unless_true _ (sym c.in_ok-insert.ensures.added ∙ c.if-not-branch.true) in
    let noted : seen_at cmp c.loop-at.seen k m.number ≡ 1 = ap (λ b. cond b 1 0) known in
    let was = under_key cmp g.met.K.Ord.total c.requires k (seen_at cmp c.args.seen.now k m.number) (count_of m.number (take at line)) (seen_at cmp c.loop-at.seen k m.number) (c.loop-at.invariant k m.number) in
    let more = count_under (λ x. is_same m.number x.number) line at m is (itself by_number by_number-total m.number) in
    (λ no. absurd cc, λ once. absurd (omega (arith, once m.number, more, was, noted)))

pub loop-at-preserved : goal.loop-at-preserved
loop-at-preserved g c =
    let cmp = g.K.Ord.cmp in
    let line = c.args.line.now in
    let at = c.loop-at.at in
    let m = c.unwrap.result.now in
    let is : slice_get line at ≡ Some m = search rules in
    number_noted cmp g.met.K.Ord.total c.requires c.args.key.now m.number (λ q n. tree.contains (seen_cmp cmp) c.loop-at.seen (record { ref_ptr = (0, 0); now = q }, n)) (λ q n. tree.contains (seen_cmp cmp) c.insert.new.self (record { ref_ptr = (0, 0); now = q }, n)) (unless_false _ (sym c.in_ok-insert.ensures.added ∙ c.if-not-branch.false)) (λ q n. c.in_ok-insert.ensures.updates.0 (record { ref_ptr = (0, 0); now = q }, n)) (λ q n. seen_at cmp c.args.seen.now q n) (λ n. count_of n (take at line)) (λ n. count_of n (take (at + 1) line)) (λ n. counted_more (λ x. is_same n x.number) line at m is) c.loop-at.invariant

pub returns-clause-new : goal.returns-clause-new
returns-clause-new g c =
    let cmp = g.K.Ord.cmp in
    let line = c.args.line.now in
    let at = c.loop-at.at in
    let k = c.args.key.now in
    let past : length line ≤ at = omega (arith, c.len-at-end.ensures.count, c.loop-at-test.false) in
    (λ _ n. omega (arith, under_key cmp g.met.K.Ord.total c.requires k (seen_at cmp c.args.seen.now k n) (count_of n (take at line)) (seen_at cmp c.loop-at.seen k n) (c.loop-at.invariant k n), bit_small (tree.contains (seen_cmp cmp) c.loop-at.seen (record { ref_ptr = (0, 0); now = k }, n)), count_all (λ x. is_same n x.number) line at past), λ _. refl)

pub returns-clause-seen : goal.returns-clause-seen
returns-clause-seen g c =
    let cmp = g.K.Ord.cmp in
    let line = c.args.line.now in
    let at = c.loop-at.at in
    let past : length line ≤ at = omega (arith, c.len-at-end.ensures.count, c.loop-at-test.false) in
    λ _ q n. c.loop-at.invariant q n ∙ ap (λ x. seen_at cmp c.args.seen.now q n + cond (is_at (cmp q) c.args.key.now) x 0) (count_all (λ x. is_same n x.number) line at past)
