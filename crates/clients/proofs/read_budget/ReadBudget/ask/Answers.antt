use Rattle.std.proofs.Common.{ap, rules, subst}
use Rattle.std.specs.Io.KnownBytes.{ReadConsumes}
use Rattle.clients.proofs.ReadPortions.{reads}
use Rattle.clients.proofs.read_budget.ReadBudget.ask.Goals as goal

pub returns-in-Ok-clause-bytes : goal.returns-in-Ok-clause-bytes
returns-in-Ok-clause-bytes g c =
    let left = g.S.Read.remaining in
    let portion = c.portion.ensures in
    reads (left c.args.self.now.socket) (left c.read-outcome.new.self) (left c.portion.new.self.socket) c.args.self.now.spare.items c.portion.new.self.spare.items
    c.read-outcome.new.buf c.in-Ok.count c.portion.result c.requires.spare (ap left portion.same.socket) (search rules)
    (subst (λ r. ReadConsumes (left c.args.self.now.socket) (left c.read-outcome.new.self) r c.read-outcome.new.buf) c.in-Ok.is c.read-outcome.ensures.bytes)
    portion.within portion.some portion.spare
