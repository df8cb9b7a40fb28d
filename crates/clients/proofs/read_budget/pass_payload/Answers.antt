use Rattle.std.proofs.Common.{arith}
use Rattle.clients.proofs.FramePassing.{all, part}
use Rattle.clients.proofs.read_budget.pass_payload.Goals as goal

pub returns-then-there-count-clause-passes : goal.returns-then-there-count-clause-passes
returns-then-there-count-clause-passes c =
    part c.args.place.now c.args.count c.args.left.now c.args.bytes.now c.requires.place (omega (arith, c.if-there-count.true))

pub returns-clause-passes : goal.returns-clause-passes
returns-clause-passes c =
    all c.args.place.now c.args.count c.args.left.now c.args.bytes.now c.requires.place (omega (arith, c.requires.count)) (omega (arith, c.if-there-count.false)) c.requires.left
