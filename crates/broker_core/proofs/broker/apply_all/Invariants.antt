use Rattle.std.proofs.Common.{◌≡◌, ◌≤◌, ◌+◌, false, length}
use Rattle.broker_state.specs.Executing.{committed}
use Rattle.broker_core.proofs.broker.apply_all.Given as goal

abbrev pub invariant-loop-member : goal.invariant-loop-member
invariant-loop-member l = record {
  committed : committed l.rule l.tables.state l.session l.place l.member-iterator.rest.items ≡ committed l.rule l.fn.tables.state l.session 0 l.fn.members.items;
  few : l.place + length l.member-iterator.rest.items ≤ 64;
  whole : l.tables.broken ≡ false;
}
