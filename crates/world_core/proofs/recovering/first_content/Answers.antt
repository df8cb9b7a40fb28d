use Rattle.std.proofs.Common.{◌+◌, ◌*◌, ◌∙◌, ℕ, List, [], ◌∷◌, length, ap, arith}
use Rattle.std.proofs.lemmas.List.{length-replicate, with_items_is}
use Rattle.disk_core.specs.Images.{patched}
use Rattle.world_core.proofs.recovering.first_content.Goals as goal

pub put_both-requires-clause-room : goal.put_both-requires-clause-room
put_both-requires-clause-room c = ap (λ (l : List ℕ). length l) (c.deref_mut.ensures.value ∙ c.in_ok-content.ensures) ∙ length-replicate (32 + 2 * c.args.size) 0

pub put_both-requires-clause-head : goal.put_both-requires-clause-head
put_both-requires-clause-head c = omega (arith, ap (λ (l : List ℕ). length l) (c.deref.ensures.value ∙ c.in_ok-head.ensures))

pub put_both-requires-clause-front : goal.put_both-requires-clause-front
put_both-requires-clause-front c = omega (arith, ap (λ (l : List ℕ). length l) (c.deref-2.ensures.value ∙ c.in_ok-front.ensures))

pub returns : goal.returns
returns c =
    let zeros = c.deref_mut.ensures.value ∙ c.in_ok-content.ensures in
    let head = c.deref.ensures.value ∙ c.in_ok-head.ensures in
    let front = c.deref-2.ensures.value ∙ c.in_ok-front.ensures in
    with_items_is c.in_ok-content.content c.put_both.new.bytes (c.put_both.auto.bytes ∙ c.deref_mut.ensures.len) ∙ c.put_both.ensures
    ∙ (λ i. patched 16 (1 ∷ []) (patched (32 + c.args.size) (front i) (patched 0 (head i) (patched 32 (front i) (zeros i)))))
