use Rattle.std.proofs.Common.{arith}
use Rattle.claim_core.proofs.Dealing.{hands}
use Rattle.claim_core.proofs.steps.hand_back.Goals as goal

pub split_seat-requires : goal.split_seat-requires
split_seat-requires g c = let o = c.requires.owner in (c.requires.fits.0, omega (arith, c.requires.fits.1), hands _ _ _ o.0 o.1 o.2 o.3 o.4)
