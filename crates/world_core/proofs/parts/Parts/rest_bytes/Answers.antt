use Rattle.std.proofs.Common.{◌∙◌, ℕ, List, ap}
use Rattle.area_core.specs.declared.version.Version.TheVariants.{Two}
use Rattle.area_core.specs.Areas.{closed_snapshot}
use Rattle.world_core.proofs.Patching.{found_rest}
use Rattle.world_core.proofs.parts.Parts.rest_bytes.Goals as goal

pub returns-clause-some : goal.returns-clause-some
returns-clause-some c =
    found_rest c.in_ok-snapshot.field-0 c.in-Some.snapshot c.args.self.now.size c.args.self.now.content.items c.deref.result.now c.in_ok-bytes.field-0.items c.in-Some.is c.deref.ensures.value c.in_ok-snapshot.ensures.some
    (c.in_ok-bytes.ensures ∙ ap (λ (l : List ℕ). closed_snapshot Two l) c.deref-2.ensures.value)
