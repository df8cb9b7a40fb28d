use Rattle.std.proofs.Common.{◌≡◌, ◌+◌, ℕ}
use Rattle.std.specs.List.{sum_by}
use Rattle.line_core.specs.declared.message.Message.{Message}
use Rattle.broker_state.specs.Waiting.{weight_of_lines, with_deliveries}
use Rattle.broker_tables.proofs.shared_lines.put_back.Given as goal

abbrev pub invariant-loop-message : goal.invariant-loop-message
invariant-loop-message g l = record {
  entries : with_deliveries g.K.Ord.cmp l.key l.message-iterator.rest.items l.lines.entries ≡ with_deliveries g.K.Ord.cmp l.key l.fn.deliveries.items l.fn.lines.entries;
  weight : (weight : Message → ℕ) → weight_of_lines weight l.lines.entries + sum_by (λ delivery. weight delivery.1) l.message-iterator.rest.items ≡ weight_of_lines weight l.fn.lines.entries + sum_by (λ delivery. weight delivery.1) l.fn.deliveries.items;
}
