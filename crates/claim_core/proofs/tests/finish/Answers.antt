use Rattle.std.proofs.Common.{ap, refl, []}
use Rattle.claim_core.proofs.tests.finish.Goals as goal

pub ready-requires-clause-claimed : goal.ready-requires-clause-claimed
ready-requires-clause-claimed c = let pending = c.requires.pending in (_, [], [], ap (λ m. m.0) pending, refl, refl, ap (λ m. m.1) pending)
