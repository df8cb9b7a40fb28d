use Rattle.std.proofs.Common.{◌≡◌, ℕ, List}
use Rattle.command_core.specs.Commands.{CommandValue}
use Rattle.engine_core.specs.Going.{HasCome}
use Rattle.engine_core.proofs.command_queue.take_all.Given as goal

abbrev pub invariant-loop-turn : goal.invariant-loop-turn
invariant-loop-turn g l = (more : List CommandValue) × (k : ℕ) × HasCome l.fn.flusher l.flusher more k × (g.D.Disk.failures l.flusher.disk ≡ g.D.Disk.failures l.fn.flusher.disk) × (g.D.Disk.honest l.fn.flusher.disk → g.D.Disk.honest l.flusher.disk)
