use Rattle.std.proofs.Common.{◌≡◌, ◌≤◌, ◌+◌, ◌++◌, ◌↔◌, Bool, IsTrue, arith, true}
use Rattle.line_core.specs.declared.message.MessageNumber.{MessageNumber}
use Rattle.broker_state.specs.Kept.{unacknowledged_by}
use Rattle.broker_state.specs.Seen.{count_of, seen_at}
use Rattle.broker_state.specs.Sound.{AreOnce}
use Rattle.broker_state.specs.Waiting.{line_at}
use Rattle.broker_state.proofs.Answered.{if_ok}
use Rattle.broker_state.proofs.SeenNumbers.{count_both, nothing_seen}
use Rattle.broker_state.proofs.part_checks.are_once_by.Goals as goal

pub returns-then-not-branch : goal.returns-then-not-branch
returns-then-not-branch g c =
    let cmp = g.K.Ord.cmp in
    let lines = c.args.lines.now.entries in
    let subs = c.args.subscriptions.now in
    λ takes tells.
    (λ no. absurd cc, λ once. let yes : c.in_ok-lines_are_new.field-0 ≡ true = c.in_ok-lines_are_new.ensures.new.1 (λ q n. omega (arith, nothing_seen cmp c.new-seen.result c.new-seen.ensures.empty q n, count_both n (line_at cmp q lines) (unacknowledged_by (takes q) subs), once q n)) in absurd cc)

pub returns : goal.returns
returns g c =
    let cmp = g.K.Ord.cmp in
    let lines = c.args.lines.now.entries in
    let subs = c.args.subscriptions.now in
    let seen = c.lines_are_new.new.seen in
    λ takes tells.
    let whole : (q : g.row.K.Denot) (n : MessageNumber) → count_of n (line_at cmp q lines ++ unacknowledged_by (takes q) subs) ≡ seen_at cmp seen q n + count_of n (unacknowledged_by (takes q) subs) = λ q n. omega (arith, c.in_ok-lines_are_new.ensures.seen c.if-not-branch.false q n, nothing_seen cmp c.new-seen.result c.new-seen.ensures.empty q n, count_both n (line_at cmp q lines) (unacknowledged_by (takes q) subs)) in
    if_ok (λ yes. IsTrue yes ↔ ((q : g.row.K.Denot) (n : MessageNumber) → seen_at cmp seen q n + count_of n (unacknowledged_by (takes q) subs) ≤ 1)) (λ yes. IsTrue yes ↔ ((q : g.row.K.Denot) → AreOnce (line_at cmp q lines ++ unacknowledged_by (takes q) subs))) (λ (yes : Bool) said. (λ t q n. omega (arith, said.0 t q n, whole q n), λ once. said.1 (λ q n. omega (arith, once q n, whole q n)))) c.unacknowledged_are_new.result (c.unacknowledged_are_new.ensures takes tells)
