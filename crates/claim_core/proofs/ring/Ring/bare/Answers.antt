use Rattle.std.proofs.Common.{arith}
use Rattle.claim_core.proofs.Starting.{starts}
use Rattle.claim_core.proofs.ring.Ring.bare.Goals as goal

pub vacant-requires : goal.vacant-requires
vacant-requires g c = starts _ _ _ c.requires.0 c.requires.1 c.requires.2 (omega (arith, c.requires.3)) (rw c.as_mut_slice.ensures.value c.in_ok-words.ensures)
