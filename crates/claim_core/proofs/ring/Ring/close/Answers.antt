use Rattle.claim_core.proofs.ring.Ring.close.Goals as goal

pub returns-clause-ended : goal.returns-clause-ended
returns-clause-ended g c = c.gather_all.ensures
