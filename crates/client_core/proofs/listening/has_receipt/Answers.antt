use Rattle.std.proofs.Common.{arith}
use Rattle.client_core.proofs.Leaving.{message_more, none_comes, receipt_comes}
use Rattle.client_core.proofs.listening.has_receipt.Goals as goal

pub returns-then-is_answer : goal.returns-then-is_answer
returns-then-is_answer c =
    receipt_comes c.args.frames.now c.loop-frame.frame-index c.frame-item.result (omega arith) c.frame-item.is c.loop-frame.invariant (c.is_answer.ensures.0 c.if-is_answer.true)

pub loop-frame-preserved : goal.loop-frame-preserved
loop-frame-preserved c =
    message_more c.args.frames.now c.loop-frame.frame-index c.frame-item.result (omega arith) c.frame-item.is c.loop-frame.invariant (c.is_message.ensures.0 c.if-not-is_message.false)

pub returns : goal.returns
returns c = none_comes c.args.frames.now c.loop-frame.frame-index (omega arith) c.loop-frame.invariant
