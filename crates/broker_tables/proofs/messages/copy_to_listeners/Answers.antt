use Rattle.std.proofs.Common.{◌∙◌, List, ℕ, ap, map}
use Rattle.std.proofs.lemmas.Result.{on_ok_weaker}
use Rattle.waiting_order.specs.Directories.{is_plain_at}
use Rattle.waiting_order.specs.Keeping.{put_where}
use Rattle.waiting_order.specs.Waiting.{Waiting, subs_of}
use Rattle.broker_tables.proofs.Waiters.{subs_put}
use Rattle.broker_tables.proofs.messages.copy_to_listeners.Goals as goal

pub returns-clause-copied : goal.returns-clause-copied
returns-clause-copied c =
    let m = c.args.message.now in
    let ws = c.args.order.now.all in
    on_ok_weaker c.put_each.result (λ put. ap (λ (o : Waiting). subs_of o.all) put ∙ ap (λ (to : List ℕ). subs_of (map (put_where (is_plain_at to) m) ws)) c.destination.ensures.value ∙ subs_put m c.requires.topic ws) c.put_each.ensures
