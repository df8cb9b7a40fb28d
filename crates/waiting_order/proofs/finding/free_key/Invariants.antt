use Rattle.std.proofs.Common.{◌≡◌}
use Rattle.waiting_order.proofs.Seeking.{total}
use Rattle.waiting_order.proofs.finding.free_key.Given as goal

abbrev pub invariant-loop-slot : goal.invariant-loop-slot
invariant-loop-slot l = total l.session l.slot l.waiters.all ≡ l.slot
