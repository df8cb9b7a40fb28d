use Rattle.std.proofs.Common.{◌≡◌, ◌+◌, ◌∙◌, Some, ap, arith, cond, length, refl, slice_get, sym, take, true}
use Rattle.std.proofs.lemmas.Option.{slice_get_read}
use Rattle.std.specs.BTreeSet as tree
use Rattle.line_core.proofs.RisingLines.{by_number-total}
use Rattle.line_core.specs.Lines.{by_number, is_same}
use Rattle.broker_state.specs.Seen.{seen_at, seen_cmp}
use Rattle.broker_state.proofs.SeenCounts.{count_under, unless_false, unless_true}
use Rattle.broker_state.proofs.SeenNumbers.{counted_more, in_flight, itself, number_noted, under_key}
use Rattle.broker_state.proofs.part_checks.deliveries_are_new.Goals as goal

pub returns-then-not-branch-clause-new : goal.returns-then-not-branch-clause-new
returns-then-not-branch-clause-new g c =
    let cmp = g.K.Ord.cmp in
    let flight = c.args.deliveries.now in
    let at = c.loop-message.message-index in
    let d = c.loop-message-item.result in
    let n = d.1.number in
    let k = c.args.key.now in
    let is : slice_get flight at ≡ Some d = slice_get_read flight (length flight) at d refl c.loop-message-test.true c.loop-message-item.is in
    let known : tree.contains (seen_cmp cmp) c.loop-message.seen (record { ref_ptr = (0, 0); now = k }, n) ≡ true = unless_true _ (sym c.in_ok-insert.ensures.added ∙ c.if-not-branch.true) in
    let noted : seen_at cmp c.loop-message.seen k n ≡ 1 = ap (λ b. cond b 1 0) known in
    let was = under_key cmp g.met.K.Ord.total c.requires k (seen_at cmp c.args.seen.now k n) (in_flight n (take at flight)) (seen_at cmp c.loop-message.seen k n) (c.loop-message.invariant k n) in
    let more = count_under (λ x. is_same n x.1.number) flight at d is (itself by_number by_number-total n) in
    (λ no. absurd cc, λ once. absurd (omega (arith, once n, more, was, noted)))

pub loop-message-preserved : goal.loop-message-preserved
loop-message-preserved g c =
    let cmp = g.K.Ord.cmp in
    let flight = c.args.deliveries.now in
    let at = c.loop-message.message-index in
    let d = c.loop-message-item.result in
    let is : slice_get flight at ≡ Some d = slice_get_read flight (length flight) at d refl c.loop-message-test.true c.loop-message-item.is in
    number_noted cmp g.met.K.Ord.total c.requires c.args.key.now d.1.number (λ q n. tree.contains (seen_cmp cmp) c.loop-message.seen (record { ref_ptr = (0, 0); now = q }, n)) (λ q n. tree.contains (seen_cmp cmp) c.insert.new.self (record { ref_ptr = (0, 0); now = q }, n)) (unless_false _ (sym c.in_ok-insert.ensures.added ∙ c.if-not-branch.false)) (λ q n. c.in_ok-insert.ensures.updates.0 (record { ref_ptr = (0, 0); now = q }, n)) (λ q n. seen_at cmp c.args.seen.now q n) (λ n. in_flight n (take at flight)) (λ n. in_flight n (take (at + 1) flight)) (λ n. counted_more (λ x. is_same n x.1.number) flight at d is) c.loop-message.invariant
