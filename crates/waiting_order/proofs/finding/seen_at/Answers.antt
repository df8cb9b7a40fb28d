use Rattle.std.proofs.Common.{◌∙◌, ap, arith, sym}
use Rattle.waiting_order.specs.Soughts.{is_sought}
use Rattle.waiting_order.specs.declared.waiters.Waiter.{Waiter}
use Rattle.waiting_order.specs.Keys.{key_eq}
use Rattle.waiting_order.proofs.Seeking.{same_there}
use Rattle.waiting_order.proofs.Timed.{clash, key_itself}
use Rattle.waiting_order.proofs.finding.seen_at.Goals as goal

pub returns-in_default-clause-seen : goal.returns-in_default-clause-seen
returns-in_default-clause-seen c at s is after =
    absurd (clash (key_eq c.args.key c.args.key) (key_itself c.args.key) (c.in_default.ensures.none at (c.args.key, s) is))

pub returns-then-waiter-from-clause-seen : goal.returns-then-waiter-from-clause-seen
returns-then-waiter-from-clause-seen c at s is after =
    let it = c.in-Some.ensures.some in
    let same = same_there c.args.waiters.now c.get.ensures.order c.args.key at it.0 s c.in-Some.waiter.now is it.1 in
    absurd (omega (arith, after, c.if-waiter-from.true, ap (λ (x : Waiter). x.ticket) same))

pub returns-then-not-is_sought-clause-seen : goal.returns-then-not-is_sought-clause-seen
returns-then-not-is_sought-clause-seen c at s is after =
    let it = c.in-Some.ensures.some in
    let same = same_there c.args.waiters.now c.get.ensures.order c.args.key at it.0 s c.in-Some.waiter.now is it.1 in
    ap (λ (x : Waiter). is_sought c.args.sought x.sub) same ∙ sym c.is_sought.ensures ∙ c.if-not-is_sought.true
