use Rattle.std.proofs.Common.{◌≡◌, ◌∙◌, ℕ, List, length, Option, refl, sym, ap, subst, arith}
use Rattle.std.specs.Vec.{with_items}
use Rattle.std.proofs.lemmas.List.{with_items_is}
use Rattle.disk_core.specs.Images.{IsImage}
use Rattle.disk_core.specs.Memory.{none_held}
use Rattle.world_core.specs.Parts.{value_of}
use Rattle.world_core.proofs.Calling.{crashed}
use Rattle.world_core.proofs.Telling.{fails_where, holds_where}
use Rattle.world_core.proofs.parts.Parts.crash.Goals as goal

pub may_read_as-requires : goal.may_read_as-requires
may_read_as-requires c = c.requires.held

pub returns-then-not-may_read_as : goal.returns-then-not-may_read_as
returns-then-not-may_read_as c r x =
    let old = c.args.self.now in (
      λ image. fails_where c.may_read_as.result (IsImage old.content.items old.held.items c.as_slice.result.now) c.may_read_as.ensures c.if-not-may_read_as.true
          (subst (λ (l : List ℕ). IsImage old.content.items old.held.items l) (sym c.as_slice.ensures) image),
      refl,
    )

pub returns : goal.returns
returns c r x =
    let old = c.args.self.now in
    let image = subst (λ (l : List ℕ). IsImage old.content.items old.held.items l) c.as_slice.ensures
    (holds_where c.may_read_as.result (IsImage old.content.items old.held.items c.as_slice.result.now) c.may_read_as.ensures c.if-not-may_read_as.false) in
    let content : c.copy_from_slice.new.self.items ≡ c.args.image = c.copy_from_slice.ensures.items ∙ c.as_slice-2.ensures in
    let held = with_items_is old.held c.release.new.held (c.release.auto.held ∙ c.deref_mut.ensures.len) ∙ c.release.ensures in
    let many : length c.deref_mut.result.now ≡ length c.args.image = omega (arith, c.requires.held, image.size, ap (λ (l : List (Option ℕ)). length l) c.deref_mut.ensures.value) in
    (image, crashed (value_of old) c.args.image c.copy_from_slice.new.self.items (with_items old.held c.release.new.held).items content (held ∙ ap (λ (n : ℕ). none_held n) many))
