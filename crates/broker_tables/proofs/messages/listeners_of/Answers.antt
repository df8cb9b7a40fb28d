use Rattle.std.proofs.Common.{◌&&◌, ◌∙◌}
use Rattle.std.specs.Str.{bytes_eq}
use Rattle.broker_state.specs.declared.subscription.Subscription.{Subscription}
use Rattle.broker_state.specs.Waiting.{is_own}
use Rattle.waiting_order.specs.Directories.{is_plain_at}
use Rattle.waiting_order.specs.Waiting.{subs_of}
use Rattle.broker_tables.proofs.Nexts.{count_alike, plain_listens}
use Rattle.broker_tables.proofs.messages.listeners_of.Goals as goal

pub returns-clause-counted : goal.returns-clause-counted
returns-clause-counted c =
    let to = c.args.to.now in
    c.count_at.ensures.count ∙ count_alike (is_plain_at to) (λ (sub : Subscription). is_own sub && bytes_eq sub.destination to) (plain_listens to c.requires.topic) (subs_of c.args.order.now.all)
