use Rattle.claim_core.proofs.ring.Ring.look.Goals as goal

pub returns-clause-seen : goal.returns-clause-seen
returns-clause-seen g c = c.read_mark.ensures.seen
