use Rattle.std.proofs.Common.{◌+◌, ◌*◌, ◌∙◌, ℕ, List, length, ap, arith}
use Rattle.std.proofs.lemmas.List.{length-replicate, with_items_is}
use Rattle.disk_core.specs.Images.{patched}
use Rattle.world_core.proofs.recovering.old_content.Goals as goal

pub put_first-requires-clause-room : goal.put_first-requires-clause-room
put_first-requires-clause-room c = ap (λ (l : List ℕ). length l) (c.deref_mut.ensures.value ∙ c.in_ok-content.ensures) ∙ length-replicate (32 + 2 * c.args.size) 0

pub put_first-requires-clause-head : goal.put_first-requires-clause-head
put_first-requires-clause-head c = omega (arith, ap (λ (l : List ℕ). length l) (c.deref.ensures.value ∙ c.in_ok-head.ensures))

pub returns : goal.returns
returns c =
    let zeros = c.deref_mut.ensures.value ∙ c.in_ok-content.ensures in
    let head = c.deref.ensures.value ∙ c.in_ok-head.ensures in
    with_items_is c.in_ok-content.content c.put_first.new.bytes (c.put_first.auto.bytes ∙ c.deref_mut.ensures.len) ∙ c.put_first.ensures
    ∙ (λ i. patched 0 (head i) (patched 32 c.args.area.now (zeros i)))
