use Rattle.std.proofs.Common.{◌≡◌, ◌∙◌, ap, subst, count_by, nat_eq, nat_le}
use Rattle.claim_core.specs.declared.limits.TheConstants.{WINDOW}
use Rattle.engine_core.specs.declared.command_queue.Waiting.{Waiting}
use Rattle.engine_core.specs.Queues.{QueueOnDisk, is_full}
use Rattle.engine_core.proofs.command_queue.CommandQueue.is_full.Goals as goal

pub returns : goal.returns
returns c =
    let counted = c.count_of.ensures ∙ ap (count_by (λ (w : Waiting). nat_eq w.connection c.args.connection)) c.as_slice.ensures.value in
    subst (λ (q : QueueOnDisk). nat_le WINDOW c.count_of.result ≡ is_full c.args.connection q.queue) c.self.view_is (ap (nat_le WINDOW) counted)
