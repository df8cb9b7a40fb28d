use Rattle.std.proofs.Common.{ap}
use Rattle.clients.proofs.ReadPortions.{gives}
use Rattle.clients.proofs.read_budget.ReadBudget.read_reported.Goals as goal

pub returns-else-is_empty-2-clause-bytes : goal.returns-else-is_empty-2-clause-bytes
returns-else-is_empty-2-clause-bytes g c =
    let left = g.S.Read.remaining in
    let give = c.give.ensures in
    gives (left c.args.self.now.socket) (left c.give.new.self.socket) c.give.new.buf c.args.self.now.spare.items c.give.new.self.spare.items c.give.result
    (ap left give.same.0) give.given give.spare give.within.1
