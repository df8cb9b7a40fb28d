use Rattle.std.proofs.Common.{◌∙◌, ap, arith, fold, sym, ℕ}
use Rattle.std.specs.List.{sum_by}
use Rattle.std.proofs.lemmas.List.Sums.{sum_by-cons}
use Rattle.line_core.specs.declared.message.Message.{Message}
use Rattle.broker_state.specs.States.{bytes, one, weight_of_subscription}
use Rattle.broker_state.specs.Waiting.{Shared, returned}
use Rattle.broker_tables.proofs.tables.let_all_go.Goals as goal

pub let_go-requires : goal.let_go-requires
let_go-requires c =
    let h = c.loop-sub.invariant.held in
    let rest = c.next.new.self.rest.items in
    let steps = c.in-Some.ensures.steps.0 in
    let part = λ (weight : Message → ℕ). sum_by-cons (weight_of_subscription weight) c.in-Some.sub rest in
    record {
      held = record {
        within = h.small;
        messages = omega (arith, h.messages, part one, ap (sum_by (weight_of_subscription one)) steps);
        bytes = omega (arith, h.bytes, part bytes, ap (sum_by (weight_of_subscription bytes)) steps);
      };
    }

pub loop-sub-preserved : goal.loop-sub-preserved
loop-sub-preserved c =
    let h = c.loop-sub.invariant.held in
    let rest = c.next.new.self.rest.items in
    let steps = c.in-Some.ensures.steps.0 in
    let done = c.in_ok-let_go.ensures in
    let part = λ (weight : Message → ℕ). sum_by-cons (weight_of_subscription weight) c.in-Some.sub rest in
    record {
      lines = ap (λ (x : Shared). fold returned x rest) done.lines ∙ ap (fold returned c.loop-sub.shared) (sym steps) ∙ c.loop-sub.invariant.lines;
      held = record {
        few = omega (arith, h.few, done.left.fewer);
        small = omega (arith, h.small, done.left.lighter);
        messages = omega (arith, h.messages, done.left.messages, part one, ap (sum_by (weight_of_subscription one)) steps);
        bytes = omega (arith, h.bytes, done.left.bytes, part bytes, ap (sum_by (weight_of_subscription bytes)) steps);
      };
    }
