use Rattle.std.proofs.Common.{arith, ap, ◌+◌, ◌∙◌, ◌∷◌, None}
use Rattle.claim_core.specs.Places.{free_for}
use Rattle.claim_core.proofs.Flushing.{frees}
use Rattle.claim_core.proofs.steps.free.Goals as goal

pub store-requires : goal.store-requires
store-requires g c = let o = c.requires.owner in let p = c.requires.place in let f = c.requires.fits in (
  f.0.0,
  omega (arith, f.0.1, p.0.1),
  frees _ _ _ _ _ _ c.args.ticket o.0 o.1 (omega (arith, p.0.0)) (ap (λ z. free_for (c.args.ticket + z)) f.1) o.2 o.3 o.4 (o.5 ∙ (λ i. (p.0.0 i, None) ∷ o.1)),
)
