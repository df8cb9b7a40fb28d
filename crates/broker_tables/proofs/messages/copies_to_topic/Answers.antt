use Rattle.std.proofs.Common.{◌≡◌, ◌&&◌, arith, count_by}
use Rattle.std.specs.Str.{bytes_eq}
use Rattle.broker_state.specs.Waiting.{is_own}
use Rattle.waiting_order.specs.Waiting.{subs_of}
use Rattle.broker_tables.proofs.messages.copies_to_topic.Goals as goal

pub returns : goal.returns
returns c =
    let to = c.args.to.now in
    let names : c.names_of.result ≡ count_by (λ durable. bytes_eq durable.1 to) c.tables.inside.durables = c.names_of.ensures.counted in
    let listeners : c.listeners_of.result ≡ count_by (λ sub. is_own sub && bytes_eq sub.destination to) (subs_of c.tables.inside.stock.order.all) = c.listeners_of.ensures.counted in
    rw (← c.tables.view_is) (omega (arith, names, listeners))
