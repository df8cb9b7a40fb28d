use Rattle.std.proofs.Common.{◌≡◌}
use Rattle.flush_core.specs.Backlogs.{IsLight}
use Rattle.engine_core.specs.Flushes.{Flushes}
use Rattle.engine_core.proofs.flushing.flush_loop.Given as goal

abbrev pub invariant-loop-turn : goal.invariant-loop-turn
invariant-loop-turn g l = Flushes l.fn.flusher l.flusher × (g.D.Disk.failures l.flusher.disk ≡ g.D.Disk.failures l.fn.flusher.disk) × (IsLight l.fn.flusher → IsLight l.flusher)
