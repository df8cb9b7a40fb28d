use Rattle.claim_core.specs.Laid.{IsLaid}
use Rattle.claim_core.proofs.ring.lay.Given as goal

abbrev pub invariant-loop-i : goal.invariant-loop-i
invariant-loop-i l = IsLaid l.row l.places l.base l.i
