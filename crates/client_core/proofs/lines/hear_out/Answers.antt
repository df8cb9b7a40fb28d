use Rattle.client_core.proofs.Settling.{settled_by_fault, settles_more}
use Rattle.client_core.proofs.lines.hear_out.Goals as goal

pub returns-in-Err-clause-window : goal.returns-in-Err-clause-window
returns-in-Err-clause-window g c =
    let fault = c.in-Err.fault in
    settled_by_fault c.loop-piece.reader.rest c.args.window.now c.loop-piece.window c.hear_receipts.new.window fault.cause c.loop-piece.invariant c.in-Err.ensures.fault

pub loop-piece-preserved : goal.loop-piece-preserved
loop-piece-preserved g c =
    let heard = c.in-Ok.ensures.ok in
    settles_more heard.1 c.args.window.now c.loop-piece.window c.hear_receipts.new.window c.loop-piece.invariant heard.4
