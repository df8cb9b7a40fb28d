use Rattle.std.proofs.Common.{◌≡◌, fold}
use Rattle.broker_state.specs.Names.{name_cmp}
use Rattle.broker_state.specs.Waiting.{with_message}
use Rattle.broker_tables.proofs.messages.copy_to_all.Given as goal

abbrev pub invariant-loop-name : goal.invariant-loop-name
invariant-loop-name l = record {
  names : fold (λ more name. with_message name_cmp name l.message more) l.shared.names l.name-iterator ≡ fold (λ more name. with_message name_cmp name l.message more) l.fn.shared.names l.names;
  queues : l.shared.queues ≡ l.fn.shared.queues;
}
