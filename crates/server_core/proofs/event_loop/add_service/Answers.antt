use Rattle.std.proofs.Common.{rules}
use Rattle.server_core.proofs.Counting.{served_push}
use Rattle.server_core.proofs.event_loop.add_service.Goals as goal

pub returns-clause-served : goal.returns-clause-served
returns-clause-served g c = search (rules, served_push)
