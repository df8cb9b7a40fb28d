use Rattle.std.proofs.Common.{ℕ, List, sym, subst}
use Rattle.disk_core.specs.Images.{Torn}
use Rattle.disk_core.proofs.Runs.{weaker}
use Rattle.area_core.proofs.Named.{torn_name}
use Rattle.area_core.proofs.naming.end.Goals as goal

pub returns-clause-any_moment : goal.returns-clause-any_moment
returns-clause-any_moment g c size snapshot before only all honest =
    weaker g.D.Disk c.args.disk.now c.put.new.disk _ _ (c.put.ensures.any_moment honest)
    (λ image torn. torn_name size snapshot (g.D.Disk.content c.args.disk.now) all before image (subst (λ (l : List ℕ). Torn 0 8 l image) (only torn.0 torn.1) torn.2))
