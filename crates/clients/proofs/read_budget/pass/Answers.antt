use Rattle.std.proofs.Common.{rules}
use Rattle.clients.proofs.FramePassing.{one_ends, one_goes_on}
use Rattle.clients.proofs.read_budget.pass.Goals as goal

pub returns-then-is_front-clause-passes : goal.returns-then-is_front-clause-passes
returns-then-is_front-clause-passes c =
    one_ends c.args.place.now c.step.result c.args.left.now c.args.bytes.now c.requires.some c.step.ensures (search rules) c.requires.left

pub returns-else-is_front-clause-passes : goal.returns-else-is_front-clause-passes
returns-else-is_front-clause-passes c =
    one_goes_on c.args.place.now c.step.result c.args.left.now c.args.bytes.now c.requires.some c.step.ensures (search rules)
