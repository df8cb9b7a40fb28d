use Rattle.std.proofs.Common.{arith}
use Rattle.claim_core.proofs.Flushing.{raises}
use Rattle.claim_core.proofs.steps.raise.Goals as goal

pub store-requires : goal.store-requires
store-requires g c = let o = c.requires.owner in (c.requires.fits.0, omega (arith, c.requires.fits.1), raises _ _ _ _ c.args.mark o.0 o.1 o.2 o.3 o.4)
