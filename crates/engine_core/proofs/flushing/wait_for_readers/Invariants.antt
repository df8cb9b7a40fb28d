use Rattle.std.proofs.Common.{◌≡◌}
use Rattle.engine_core.proofs.flushing.wait_for_readers.Given as goal

abbrev pub invariant-loop : goal.invariant-loop
invariant-loop g l = l.flusher ≡ l.fn.flusher
