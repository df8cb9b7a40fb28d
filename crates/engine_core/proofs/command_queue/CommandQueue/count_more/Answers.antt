use Rattle.std.proofs.Common.{◌<◌, ◌^◌, arith, subst}
use Rattle.engine_core.specs.Queues.{QueueOnDisk}
use Rattle.engine_core.proofs.command_queue.CommandQueue.count_more.Goals as goal

pub returns-clause-few : goal.returns-clause-few
returns-clause-few c = subst (λ (q : QueueOnDisk). q.queue.state.count < 2 ^ 60) c.self.view_is (omega (arith, c.if-is_too_far.false, c.count-is_too_far.ensures))
