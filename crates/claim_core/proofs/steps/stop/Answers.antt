use Rattle.std.proofs.Common.{arith}
use Rattle.claim_core.proofs.Flushing.{stops}
use Rattle.claim_core.proofs.steps.stop.Goals as goal

pub store-requires : goal.store-requires
store-requires g c = let o = c.requires.owner in (c.requires.fits.0, omega (arith, c.requires.fits.1), stops _ _ _ _ o.0 o.1 o.2)
