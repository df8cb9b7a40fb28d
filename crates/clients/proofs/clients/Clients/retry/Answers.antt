use Rattle.std.proofs.Common.{rules}
use Rattle.clients.proofs.MemoryRetries.{none_yet, one_more}
use Rattle.clients.proofs.clients.Clients.retry.Goals as goal

pub loop-number-init : goal.loop-number-init
loop-number-init c = search (none_yet c.args.self.now c.args.self.now.lines, rules)

pub loop-number-preserved : goal.loop-number-preserved
loop-number-preserved c = search (one_more c.loop-number.number c.args.self.now c.args.self.now.lines, rules)
