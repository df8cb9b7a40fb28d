use Rattle.std.proofs.Common.{◌≡◌, ◌≤◌, ◌+◌, ◌↔◌, Bool, IsTrue, ap, arith, map, ℕ, true}
use Rattle.line_core.specs.declared.message.Message.{Message}
use Rattle.line_core.specs.declared.message.MessageNumber.{MessageNumber}
use Rattle.broker_state.specs.Names.{text_cmp}
use Rattle.broker_state.specs.Seen.{count_of, seen_at}
use Rattle.broker_state.specs.Sound.{AreOnce, had_by}
use Rattle.broker_state.proofs.Answered.{if_ok}
use Rattle.broker_state.proofs.Keys.{same_texts, texts_total}
use Rattle.broker_state.proofs.SeenNumbers.{count_both, count_flight, in_flight, nothing_seen, under_key}
use Rattle.broker_state.proofs.part_checks.has_once.Goals as goal

pub line_is_new-requires : goal.line_is_new-requires
line_is_new-requires c = same_texts

pub deliveries_are_new-requires : goal.deliveries_are_new-requires
deliveries_are_new-requires c = same_texts

pub returns-then-not-branch : goal.returns-then-not-branch
returns-then-not-branch c =
    let sub = c.args.sub.now in
    let flight = map (λ (d : ℕ × Message). d.1) sub.unacknowledged in
    (λ no. absurd cc, λ once. let yes : c.in_ok-line_is_new.field-0 ≡ true = c.in_ok-line_is_new.ensures.new.1 (λ n. omega (arith, nothing_seen text_cmp c.new-seen.result c.new-seen.ensures.empty sub.id n, count_both n sub.line flight, once n)) in absurd cc)

pub returns : goal.returns
returns c =
    let sub = c.args.sub.now in
    let flight = map (λ (d : ℕ × Message). d.1) sub.unacknowledged in
    let seen = c.line_is_new.new.seen in
    let in_line : (n : MessageNumber) → seen_at text_cmp seen sub.id n ≡ count_of n sub.line = λ n. omega (arith, under_key text_cmp texts_total same_texts sub.id (seen_at text_cmp c.new-seen.result sub.id n) (count_of n sub.line) (seen_at text_cmp seen sub.id n) (c.in_ok-line_is_new.ensures.seen c.if-not-branch.false sub.id n), nothing_seen text_cmp c.new-seen.result c.new-seen.ensures.empty sub.id n) in
    let whole : (n : MessageNumber) → count_of n (had_by sub) ≡ seen_at text_cmp seen sub.id n + in_flight n c.as_slice.result.now = λ n. omega (arith, in_line n, count_both n sub.line flight, count_flight n sub.unacknowledged, ap (in_flight n) c.as_slice.ensures.value) in
    if_ok (λ yes. IsTrue yes ↔ ((n : MessageNumber) → seen_at text_cmp seen sub.id n + in_flight n c.as_slice.result.now ≤ 1)) (λ yes. IsTrue yes ↔ AreOnce (had_by sub)) (λ (yes : Bool) tells. (λ t n. omega (arith, tells.0 t n, whole n), λ once. tells.1 (λ n. omega (arith, once n, whole n)))) c.deliveries_are_new.result c.deliveries_are_new.ensures.new
