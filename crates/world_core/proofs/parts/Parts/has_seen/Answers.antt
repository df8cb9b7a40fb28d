use Rattle.std.proofs.Common.{arith}
use Rattle.world_core.proofs.Telling.{seen_past, seen_where}
use Rattle.world_core.proofs.parts.Parts.has_seen.Goals as goal

pub returns-then-j-len : goal.returns-then-j-len
returns-then-j-len c = seen_where c.args.self.now.seats.items c.args.j c.args.n c.index.result.now (omega (arith, c.if-j-len.true, c.len.ensures)) c.index.ensures

pub returns-else-j-len : goal.returns-else-j-len
returns-else-j-len c = seen_past c.args.self.now.seats.items c.args.j c.args.n c.len.result (omega (arith, c.if-j-len.false, c.len.ensures)) (omega (arith, c.if-j-len.false))
