use Rattle.std.proofs.Common.{ℕ, ap, arith}
use Rattle.std.specs.List.{sum_by}
use Rattle.line_core.specs.declared.message.Message.{Message}
use Rattle.broker_state.specs.States.{bytes, one}
use Rattle.broker_tables.proofs.tables.let_go.Goals as goal

pub let_line_go-requires-clause-messages : goal.let_line_go-requires-clause-messages
let_line_go-requires-clause-messages c =
    omega (arith, c.requires.held.messages, c.in_ok-gone.ensures.weight one)

pub let_line_go-requires-clause-bytes : goal.let_line_go-requires-clause-bytes
let_line_go-requires-clause-bytes c =
    omega (arith, c.requires.held.bytes, c.in_ok-gone.ensures.weight bytes)

pub let_deliveries_go-requires-clause-messages : goal.let_deliveries_go-requires-clause-messages
let_deliveries_go-requires-clause-messages c =
    omega (arith, c.requires.held.messages, c.in_ok-gone.ensures.weight one, c.let_line_go.ensures.messages, ap (sum_by (λ (delivery : ℕ × Message). one delivery.1)) c.as_slice.ensures.value)

pub let_deliveries_go-requires-clause-bytes : goal.let_deliveries_go-requires-clause-bytes
let_deliveries_go-requires-clause-bytes c =
    omega (arith, c.requires.held.bytes, c.in_ok-gone.ensures.weight bytes, c.let_line_go.ensures.bytes, ap (sum_by (λ (delivery : ℕ × Message). bytes delivery.1)) c.as_slice.ensures.value)

pub returns-clause-left : goal.returns-clause-left
returns-clause-left c = record {
  messages = omega (arith, c.in_ok-gone.ensures.weight one, c.let_line_go.ensures.messages, c.let_deliveries_go.ensures.messages, ap (sum_by (λ (delivery : ℕ × Message). one delivery.1)) c.as_slice.ensures.value);
  bytes = omega (arith, c.in_ok-gone.ensures.weight bytes, c.let_line_go.ensures.bytes, c.let_deliveries_go.ensures.bytes, ap (sum_by (λ (delivery : ℕ × Message). bytes delivery.1)) c.as_slice.ensures.value);
  fewer = omega (arith, c.let_line_go.ensures.messages, c.let_deliveries_go.ensures.messages);
  lighter = omega (arith, c.let_line_go.ensures.bytes, c.let_deliveries_go.ensures.bytes);
}
