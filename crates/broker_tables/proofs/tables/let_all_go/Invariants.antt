use Rattle.std.proofs.Common.{◌≡◌, fold}
use Rattle.broker_state.specs.Waiting.{returned}
use Rattle.broker_tables.specs.Returns.{HoldAll}
use Rattle.broker_tables.proofs.tables.let_all_go.Given as goal

abbrev pub invariant-loop-sub : goal.invariant-loop-sub
invariant-loop-sub l = record {
  lines : fold returned l.shared l.sub-iterator.rest.items ≡ fold returned l.fn.shared l.fn.subs.items;
  held : HoldAll l.held l.shared l.sub-iterator.rest.items;
}
