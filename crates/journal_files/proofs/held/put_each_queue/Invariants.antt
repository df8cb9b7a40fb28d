use Rattle.std.proofs.Common.{◌≡◌, ◌++◌}
use Rattle.std.specs.List.{flat_map}
use Rattle.journal_files.specs.HeldObjects.{queue_object}
use Rattle.journal_files.proofs.held.put_each_queue.Given as goal

abbrev pub invariant-loop-queue : goal.invariant-loop-queue
invariant-loop-queue l = record {
  before : l.out.before ≡ l.fn.out.before;
  tokens : l.out.tokens ++ flat_map queue_object l.queue-iterator ≡ l.fn.out.tokens ++ flat_map queue_object l.lines.entries;
}
