use Rattle.std.proofs.Common.{◌≡◌, ◌++◌, map}
use Rattle.journal_files.specs.Held.{queues_waiting, waits_of}
use Rattle.journal_files.proofs.held.add_queues.Given as goal

abbrev pub invariant-loop-queue : goal.invariant-loop-queue
invariant-loop-queue l = map waits_of l.lots.items ++ queues_waiting l.queue-iterator ≡ map waits_of l.fn.lots.items ++ queues_waiting l.lines.entries
