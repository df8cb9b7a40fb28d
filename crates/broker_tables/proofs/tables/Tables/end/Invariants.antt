use Rattle.std.proofs.Common.{◌≡◌, filter, fold, length, not, false}
use Rattle.broker_state.specs.Operations.{is_of}
use Rattle.broker_state.specs.Waiting.{returned}
use Rattle.broker_tables.proofs.tables.Tables.end.Given as goal

abbrev pub invariant-loop : goal.invariant-loop
invariant-loop l = record {
  count : l.self.state.count ≡ l.fn.self.state.count;
  next : l.self.state.next_delivery ≡ l.fn.self.state.next_delivery;
  sessions : l.self.state.sessions ≡ l.fn.self.state.sessions;
  durables : l.self.state.durables ≡ l.fn.self.state.durables;
  shared : fold returned l.self.state.shared (filter (is_of l.session) l.self.state.subscriptions) ≡ fold returned l.fn.self.state.shared (filter (is_of l.session) l.fn.self.state.subscriptions);
  others : filter (λ sub. not (is_of l.session sub)) l.self.state.subscriptions ≡ filter (λ sub. not (is_of l.session sub)) l.fn.self.state.subscriptions;
  whole : l.self.broken ≡ false;
}

abbrev pub decreases-loop : goal.decreases-loop
decreases-loop l = length l.self.state.subscriptions
