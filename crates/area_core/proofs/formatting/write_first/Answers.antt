use Rattle.std.proofs.Common.{arith}
use Rattle.area_core.proofs.formatting.write_first.Goals as goal

pub invariant_of-area : goal.invariant_of-area
invariant_of-area g c = record { within = omega (arith, c.requires.fits); idle = omega (arith, c.requires.fits); most = c.requires.most }
