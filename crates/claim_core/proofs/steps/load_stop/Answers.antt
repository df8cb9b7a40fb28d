use Rattle.std.proofs.Common.{arith}
use Rattle.claim_core.proofs.Claiming.{sees_stop}
use Rattle.claim_core.proofs.steps.load_stop.Goals as goal

pub load-requires : goal.load-requires
load-requires g c = (c.requires.fits.0, omega (arith, c.requires.fits.1), sees_stop _ _ _ _ c.requires.claimer.0 c.requires.claimer.1)
