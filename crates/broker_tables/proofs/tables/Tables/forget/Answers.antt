use Rattle.std.proofs.Common.{◌∙◌, ap, arith, refl}
use Rattle.broker_state.specs.States.{bytes, one}
use Rattle.broker_tables.specs.Stocks.{stocked}
use Rattle.broker_tables.specs.Tables.{TablesValue}
use Rattle.broker_tables.proofs.Dues.{due_forgot}
use Rattle.broker_tables.proofs.tables.Tables.forget.Goals as goal

pub let_line_go-requires : goal.let_line_go-requires
let_line_go-requires c =
    let kept = (c.self.invariant (ap (λ (b : TablesValue). b.broken) c.self.view_is ∙ c.requires.whole)).whole in
    record {
      messages = omega (arith, kept.messages, c.forget-line.ensures.weight one);
      bytes = omega (arith, kept.bytes, c.forget-line.ensures.weight bytes);
    }

pub invariant_of-self : goal.invariant_of-self
invariant_of-self c =
    let a = c.self.inside in
    let kept = c.self.invariant (ap (λ (b : TablesValue). b.broken) c.self.view_is ∙ c.requires.whole) in
    let tallied = kept.whole in
    λ _. record {
      whole = record {
        messages = omega (arith, tallied.messages, c.let_line_go.ensures.messages, c.forget-line.ensures.weight one);
        bytes = omega (arith, tallied.bytes, c.let_line_go.ensures.bytes, c.forget-line.ensures.weight bytes);
        few = omega (arith, tallied.few, c.let_line_go.ensures.messages);
        small = omega (arith, tallied.small, c.let_line_go.ensures.bytes);
        next = tallied.next;
        deliveries = tallied.deliveries;
        tickets = tallied.tickets;
      };
      ready = due_forgot a.due.items (stocked a.stock) kept.ready (stocked (record a.stock { shared = c.forget-line.new.self })) c.args.name.now refl c.forget-line.ensures.shared c.forget-line.ensures.empty refl;
    }
