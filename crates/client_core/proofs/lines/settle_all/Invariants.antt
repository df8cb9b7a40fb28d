use Rattle.std.proofs.Common.{take}
use Rattle.client_core.specs.Lines.{AreSettled}
use Rattle.client_core.proofs.lines.settle_all.Given as goal

abbrev pub invariant-loop-frame : goal.invariant-loop-frame
invariant-loop-frame l = AreSettled (take l.frame-index l.frames) l.fn.window l.window
