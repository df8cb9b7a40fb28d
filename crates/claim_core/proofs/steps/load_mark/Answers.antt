use Rattle.std.proofs.Common.{arith}
use Rattle.claim_core.proofs.Claiming.{sees_mark}
use Rattle.claim_core.proofs.steps.load_mark.Goals as goal

pub load-requires : goal.load-requires
load-requires g c = (c.requires.fits.0, omega (arith, c.requires.fits.1), sees_mark _ _ _ _ c.requires.claimer.0 c.requires.claimer.1)
