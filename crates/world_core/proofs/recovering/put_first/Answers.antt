use Rattle.std.proofs.Common.{◌∙◌, ℕ, List, ap}
use Rattle.disk_core.specs.Images.{patched}
use Rattle.world_core.proofs.recovering.put_first.Goals as goal

pub returns : goal.returns
returns c = c.put_at-2.ensures ∙ ap (λ (l : List ℕ). patched 0 c.args.head.now l) c.put_at.ensures
