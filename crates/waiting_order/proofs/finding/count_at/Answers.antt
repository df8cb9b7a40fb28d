use Rattle.std.proofs.Common.{sym}
use Rattle.waiting_order.proofs.Seeking.{none_at, one_there}
use Rattle.waiting_order.proofs.finding.count_at.Goals as goal

pub returns-in-Some-clause-count : goal.returns-in-Some-clause-count
returns-in-Some-clause-count c =
    let it = c.in-Some.ensures.some in
    sym (one_there c.args.waiters.now c.get.ensures.order c.args.key it.0 c.in-Some._there.now it.1)

pub returns-in-None-clause-count : goal.returns-in-None-clause-count
returns-in-None-clause-count c = sym (none_at c.args.key c.args.waiters.now.all c.in-None.ensures.none)
