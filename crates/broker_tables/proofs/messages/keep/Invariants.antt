use Rattle.std.proofs.Common.{◌≡◌, ◌+◌, length}
use Rattle.broker_state.specs.Dead.{is_dropped, refused_from, with_refused}
use Rattle.broker_tables.specs.Refusals.{all_kept, all_kept_bytes}
use Rattle.broker_tables.proofs.messages.keep.Given as goal

abbrev pub invariant-loop-message : goal.invariant-loop-message
invariant-loop-message l = record {
  lines : with_refused (refused_from (is_dropped l.own) l.number.command l.number.place l.message-iterator.rest.items) l.shared.queues ≡ with_refused (refused_from (is_dropped l.own) l.fn.first.command l.fn.first.place l.fn.settled.items) l.fn.shared.queues;
  names : l.shared.names ≡ l.fn.shared.names;
  messages : l.held.messages + all_kept l.own l.message-iterator.rest.items ≡ l.fn.held.messages + all_kept l.own l.fn.settled.items;
  bytes : l.held.bytes + all_kept_bytes l.own l.message-iterator.rest.items ≡ l.fn.held.bytes + all_kept_bytes l.own l.fn.settled.items;
  places : l.number.place + length l.message-iterator.rest.items ≡ l.fn.first.place + length l.fn.settled.items;
}
