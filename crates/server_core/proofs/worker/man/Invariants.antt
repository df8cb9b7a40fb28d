use Rattle.std.proofs.Common.{◌≡◌, ◌+◌, length}
use Rattle.server_core.specs.Serving.{count_mailboxes}
use Rattle.server_core.proofs.worker.man.Given as goal

abbrev pub invariant-loop-worker : goal.invariant-loop-worker
invariant-loop-worker g l = record {
  count : length l.setups.items ≡ l._worker;
  none : count_mailboxes l.setups.items ≡ 0;
}

abbrev pub invariant-loop-desk : goal.invariant-loop-desk
invariant-loop-desk g l = record {
  count : length l.setups.items ≡ l.workers;
  desks : count_mailboxes l.setups.items ≡ l.desk;
}
