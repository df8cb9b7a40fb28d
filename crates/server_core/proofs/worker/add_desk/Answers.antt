use Rattle.std.proofs.Common.{rules}
use Rattle.server_core.proofs.Counting.{count_set}
use Rattle.server_core.proofs.worker.add_desk.Goals as goal

pub returns-after-push-clause-desks : goal.returns-after-push-clause-desks
returns-after-push-clause-desks c = search (rules, count_set)
