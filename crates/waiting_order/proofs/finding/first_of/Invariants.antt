use Rattle.waiting_order.proofs.Seeking.{Soonest}
use Rattle.waiting_order.proofs.finding.first_of.Given as goal

abbrev pub invariant-loop-slot : goal.invariant-loop-slot
invariant-loop-slot l = Soonest l.waiters.all l.session l.from l.sought l.slot l.first
