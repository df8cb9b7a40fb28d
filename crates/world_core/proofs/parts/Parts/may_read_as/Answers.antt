use Rattle.std.proofs.Common.{ℕ, List, Option, subst}
use Rattle.std.specs.Prelude.{◌↔◌, IsTrue}
use Rattle.disk_core.specs.Images.{IsImage}
use Rattle.world_core.proofs.parts.Parts.may_read_as.Goals as goal

pub returns : goal.returns
returns c =
    let old = c.args.self.now in
    subst (λ (held : List (Option ℕ)). IsTrue c.is_image.result ↔ IsImage old.content.items held c.args.image.now) c.deref-2.ensures.value
    (subst (λ (content : List ℕ). IsTrue c.is_image.result ↔ IsImage content c.deref-2.result.now c.args.image.now) c.deref.ensures.value c.is_image.ensures)
