use Rattle.std.proofs.Common.{◌≤◌, arith, subst}
use Rattle.clients.specs.Footprints.{FootprintValue, total}
use Rattle.clients.proofs.Footprints.{fits_else}
use Rattle.clients.proofs.footprint.Footprint.admits.Goals as goal

pub returns-in_default-clause-yes : goal.returns-in_default-clause-yes
returns-in_default-clause-yes c = λ e.
    fits_else _ _ _ c.in_default.not-Open c.in_default.not-Subscribe (subst (λ (f : FootprintValue). total f.parts ≤ f.room) c.self.view_is (omega (arith, c.self.invariant.stands, c.self.invariant.fits)))
