use Rattle.std.proofs.Common.{rules}
use Rattle.server_core.proofs.Counting.{count_push}
use Rattle.server_core.proofs.worker.add_setup.Goals as goal

pub returns-clause-desks : goal.returns-clause-desks
returns-clause-desks g c = search (rules, count_push)
