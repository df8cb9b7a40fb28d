use Rattle.client_core.specs.Lines.{MaySettle}
use Rattle.client_core.proofs.lines.hear_out.Given as goal

abbrev pub invariant-loop-piece : goal.invariant-loop-piece
invariant-loop-piece g l = MaySettle l.fn.window l.window
