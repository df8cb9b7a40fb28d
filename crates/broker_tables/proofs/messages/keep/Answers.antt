use Rattle.std.proofs.Common.{◌+◌, ◌∙◌, List, ℕ, ap, arith, length, sym}
use Rattle.line_core.specs.declared.message.Message.{Message}
use Rattle.broker_state.specs.Dead.{is_dropped, refused_from, with_refused}
use Rattle.broker_state.specs.Waiting.{Shared}
use Rattle.broker_tables.specs.Refusals.{all_kept, all_kept_bytes}
use Rattle.broker_tables.proofs.SettledSums.{few_kept, first_bytes, first_kept, first_one}
use Rattle.broker_tables.proofs.messages.keep.Goals as goal

pub keep_one-requires-clause-few : goal.keep_one-requires-clause-few
keep_one-requires-clause-few c =
    let first = c.in-Some.ensures.steps.0 in
    let own = c.args.own in
    omega (arith, c.loop-message.invariant.messages, ap (all_kept own) first, first_one own 0 0 (c.in-Some.field-0-0, c.in-Some.message) c.next.new.self.rest.items, few_kept own c.args.settled.items, c.requires.few)

pub loop-message-preserved : goal.loop-message-preserved
loop-message-preserved c =
    let own = c.args.own in
    let d : ℕ × Message = (c.in-Some.field-0-0, c.in-Some.message) in
    let rest = c.next.new.self.rest.items in
    let first = c.in-Some.ensures.steps.0 in
    let now = c.loop-message.invariant in
    let number = c.loop-message.number in
    let done = c.in_ok-keep_one.ensures in
    record {
      lines = ap (λ (s : Shared). with_refused (refused_from (is_dropped own) number.command (number.place + 1) rest) s.queues) done.lines
          ∙ sym (first_kept own number.command number.place d rest c.loop-message.shared.queues)
          ∙ ap (λ (l : List (ℕ × Message)). with_refused (refused_from (is_dropped own) number.command number.place l) c.loop-message.shared.queues) (sym first) ∙ now.lines;
      names = ap (λ (s : Shared). s.names) done.lines ∙ now.names;
      messages = omega (arith, now.messages, done.messages, ap (all_kept own) first, first_one own 0 0 d rest);
      bytes = omega (arith, now.bytes, done.bytes, ap (all_kept_bytes own) first, first_bytes own 0 0 d rest);
      places = omega (arith, now.places, ap length first);
    }
