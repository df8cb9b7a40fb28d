use Rattle.std.proofs.Common.{arith}
use Rattle.world_core.proofs.Recovered.{gate_is}
use Rattle.world_core.proofs.recovering.gate_on.Goals as goal

pub returns : goal.returns
returns c size r x =
    omega (arith, c.used.ensures, gate_is c.loop-more.area c.args.disk.now.content (c.loop-more.invariant.ended c.loop-more-test.false) size r x)
