use Rattle.std.proofs.Common.{◌+◌, ◌≤◌}
use Rattle.std.specs.List.{sum}
use Rattle.rtrb.specs.Ring.{SameConsumer, received}
use Rattle.outbox_core.proofs.sender.collect.Given as goal

abbrev pub invariant-loop : goal.invariant-loop
invariant-loop l = record {
  ring : SameConsumer l.fn.credits l.credits;
  more : l.free ≤ l.sum;
  part : l.sum ≤ l.bytes;
  counted : l.sum + sum (received l.fn.credits) ≤ l.free + sum (received l.credits);
}
