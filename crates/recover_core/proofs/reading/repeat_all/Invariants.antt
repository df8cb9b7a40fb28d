use Rattle.std.proofs.Common.{◌≡◌, ◌++◌, false}
use Rattle.broker_core.specs.Steps.{state_after_by}
use Rattle.recover_core.specs.Standing.{rule_of}
use Rattle.recover_core.proofs.reading.repeat_all.Given as goal

abbrev pub invariant-loop-command : goal.invariant-loop-command
invariant-loop-command l = record {
  state : l.broker.state ≡ state_after_by (rule_of l.fn.version) l.fn.broker.state l.yielded;
  broken : l.broker.broken ≡ false;
  whole : l.fn.commands.items ≡ l.yielded ++ l.command-iterator.rest.items;
}
