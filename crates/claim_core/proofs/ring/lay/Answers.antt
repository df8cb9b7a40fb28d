use Rattle.claim_core.proofs.Starting.{laid_more}
use Rattle.claim_core.proofs.ring.lay.Goals as goal

pub loop-i-preserved : goal.loop-i-preserved
loop-i-preserved c = laid_more _ _ _ _ c.requires.0 c.loop-i-test.true c.loop-i.invariant
