use Rattle.std.proofs.Common.{◌+◌, ◌-◌, ◌<◌, arith, drop, length, rules, subst, sym}
use Rattle.ws_core.specs.Pieces.{Feeding, IsFed}
use Rattle.ws_core.proofs.Cutting.{cuts}
use Rattle.ws_core.proofs.ws_link.Unfed.cut.Goals as goal

pub returns-clause-ok : goal.returns-clause-ok
returns-clause-ok c =
    let fed = c.self.inside.fed in
    let all = c.self.inside.message.items in
    let more : 1024 < length (drop fed all) = subst (λ (o : Feeding). 1024 < length o.left) (sym c.self.view_is) c.requires in
    let piece = c.in_ok-piece.ensures.items_if_clones_equal (λ x y same. search rules) in
    subst (λ o. IsFed o c.in_ok-piece.piece.items (record { left = drop (fed + 1024) all; fed = fed + 1024 })) c.self.view_is
    (cuts fed all c.in_ok-piece.piece.items (fed + 1024 - fed) c.deref.result.now more (omega arith) c.deref.ensures.value piece)
