use Rattle.std.proofs.Common.{◌≤◌, ◌-◌, length, take}
use Rattle.engine_core.specs.Runs.{Goes}
use Rattle.engine_core.proofs.run.take_piece.Given as goal

abbrev pub invariant-loop-front : goal.invariant-loop-front
invariant-loop-front g l = (l.at ≤ length l.piece) × Goes l.fn.run (take l.at l.piece) l.run (g.W.Write.contents l.fn.writer) (g.W.Write.contents l.writer)

abbrev pub decreases-loop-front : goal.decreases-loop-front
decreases-loop-front g l = length l.piece - l.at
