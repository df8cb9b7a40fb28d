use Rattle.std.proofs.Common.{take}
use Rattle.client_core.specs.Listening.{AreMessages}
use Rattle.client_core.proofs.listening.has_receipt.Given as goal

abbrev pub invariant-loop-frame : goal.invariant-loop-frame
invariant-loop-frame l = AreMessages (take l.frame-index l.frames)
