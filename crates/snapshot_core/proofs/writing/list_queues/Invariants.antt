use Rattle.std.proofs.Common.{◌≡◌, ◌<◌, ◌^◌, ◌++◌, length}
use Rattle.std.specs.List.{AllByRecursion, flat_map}
use Rattle.command_core.specs.Destinations.{IsDestination}
use Rattle.snapshot_core.specs.Snapshots.{IsLine, listed, queue}
use Rattle.snapshot_core.specs.Parts.{written}
use Rattle.snapshot_core.proofs.writing.list_queues.Given as goal

abbrev pub invariant-loop-queue : goal.invariant-loop-queue
invariant-loop-queue l = record {
  put : written l.parts.items ++ flat_map queue l.queue-iterator ≡ written l.fn.parts.items ++ listed queue l.queues.entries;
  form : AllByRecursion (λ e. IsDestination e.0 × IsLine e.1) l.queue-iterator → AllByRecursion (λ e. IsDestination e.0 × IsLine e.1) l.queues.entries;
  short : AllByRecursion (λ e. length e.1 < 2 ^ 32) l.queue-iterator;
}
