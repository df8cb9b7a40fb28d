use Rattle.std.proofs.Common.{arith}
use Rattle.client_core.proofs.Settling.{goes_on, stops}
use Rattle.client_core.proofs.lines.settle_all.Goals as goal

pub returns-in-Err-clause-cause : goal.returns-in-Err-clause-cause
returns-in-Err-clause-cause c =
    let why = c.in-Err.ensures in
    stops c.args.frames.now c.loop-frame.frame-index c.frame-item.result c.args.window.now c.loop-frame.window c.settle.new.window c.in-Err.cause
    (omega arith) c.frame-item.is c.loop-frame.invariant why.same why.stray why.cause

pub loop-frame-preserved : goal.loop-frame-preserved
loop-frame-preserved c =
    goes_on c.args.frames.now c.loop-frame.frame-index c.frame-item.result c.args.window.now c.loop-frame.window c.settle.new.window
    (omega arith) c.frame-item.is c.loop-frame.invariant c.in-Ok.ensures.ok
