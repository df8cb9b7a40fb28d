use Rattle.std.proofs.Common.{arith}
use Rattle.claim_core.proofs.Dealing.{stands_in}
use Rattle.claim_core.proofs.steps.stand_in.Goals as goal

pub split_seat-requires : goal.split_seat-requires
split_seat-requires g c = let o = c.requires.owner in (c.requires.fits.0, omega (arith, c.requires.fits.1), stands_in _ _ _ o.0 o.1)
