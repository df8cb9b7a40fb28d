use Rattle.std.proofs.Common.{◌+◌, ◌&&◌, ◌∙◌, ap, cond, count_by, sym}
use Rattle.std.specs.Str.{bytes_eq}
use Rattle.broker_state.specs.Waiting.{is_own}
use Rattle.broker_tables.proofs.messages.copies_to.Goals as goal

pub returns : goal.returns
returns c =
    let to = c.args.to.now in
    let tables = c.args.tables.now.state in
    let copies = count_by (λ durable. bytes_eq durable.1 to) tables.durables + count_by (λ sub. is_own sub && bytes_eq sub.destination to) tables.subscriptions in
    c.copies_to_topic.ensures ∙ ap (λ b. cond b 1 copies) (sym c.if-is_queue.false ∙ c.is_queue.ensures)
