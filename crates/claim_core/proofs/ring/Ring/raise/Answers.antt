use Rattle.claim_core.proofs.ring.Ring.raise.Goals as goal

pub returns : goal.returns
returns g c = c.raise_to.ensures
