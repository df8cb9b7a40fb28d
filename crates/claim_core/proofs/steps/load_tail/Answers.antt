use Rattle.std.proofs.Common.{arith}
use Rattle.claim_core.proofs.Dealing.{ends}
use Rattle.claim_core.proofs.steps.load_tail.Goals as goal

pub load-requires : goal.load-requires
load-requires g c = let o = c.requires.owner in (c.requires.fits.0, omega (arith, c.requires.fits.1), ends _ _ _ _ o.0 o.1)
