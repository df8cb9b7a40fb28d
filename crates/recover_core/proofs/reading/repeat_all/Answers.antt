use Rattle.std.proofs.Common.{inr, arith}
use Rattle.recover_core.specs.Standing.{rule_of}
use Rattle.recover_core.proofs.Folded.{left_out}
use Rattle.recover_core.proofs.reading.repeat_all.Goals as goal

pub returns-then-count-gt-MOST_COUNTED-clause-state : goal.returns-then-count-gt-MOST_COUNTED-clause-state
returns-then-count-gt-MOST_COUNTED-clause-state c =
    inr (left_out (rule_of c.args.version) c.args.broker.now.state c.loop-command.broker.state c.loop-command.yielded c.loop-command.command-iterator.rest.items c.args.commands.items
    c.loop-command.invariant.state c.loop-command.invariant.whole (omega (arith, c.if-count-gt-MOST_COUNTED.true, c.count.ensures)))
