use Rattle.std.proofs.Common.{◌∙◌, ℕ, List, length, ap}
use Rattle.std.specs.Vec.{with_items}
use Rattle.std.proofs.lemmas.List.{with_items_is}
use Rattle.disk_core.specs.Images.{patched}
use Rattle.disk_core.specs.Memory.{held_over}
use Rattle.world_core.specs.Parts.{value_of}
use Rattle.world_core.proofs.Calling.{wrote_disk}
use Rattle.world_core.proofs.parts.Parts.put.Goals as goal

pub returns : goal.returns
returns c =
    let old = c.args.self.now in
    let bytes = c.args.bytes.now in
    let content = with_items_is old.content c.overwrite.new.bytes (c.overwrite.auto.bytes ∙ c.deref_mut.ensures.len) ∙ c.overwrite.ensures.bytes ∙ ap (λ (l : List ℕ). patched c.args.at bytes l) c.deref_mut.ensures.value in
    let held = with_items_is old.held c.overwrite.new.held (c.overwrite.auto.held ∙ c.deref_mut-2.ensures.len) ∙ c.overwrite.ensures.held
    ∙ (λ i. held_over c.args.at (length bytes) (c.deref_mut-2.ensures.value i) (c.deref_mut.ensures.value i)) in
    wrote_disk (value_of old) (with_items old.content c.overwrite.new.bytes).items (with_items old.held c.overwrite.new.held).items c.args.at bytes content held
