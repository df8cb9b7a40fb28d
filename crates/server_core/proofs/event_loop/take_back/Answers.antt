use Rattle.std.proofs.Common.{◌≡◌, ◌∙◌, rules, subst, sym}
use Rattle.claim_core.specs.Seats.{SessionSeatValue}
use Rattle.frame_core.proofs.Lists.{all_push}
use Rattle.server_core.specs.Serving.{AreAt}
use Rattle.server_core.proofs.Counting.{served_last, served_pop}
use Rattle.server_core.proofs.event_loop.take_back.Goals as goal

pub returns-clause-served : goal.returns-clause-served
returns-clause-served g c = λ ring before. served_pop ring _ _ _ c.pop.ensures.items before

pub returns-clause-at : goal.returns-clause-at
returns-clause-at g c = λ ring before at.
    let last : c.unwrap-service.result.shared.now.ring ≡ ring = served_last ring _ _ _ c.unwrap-service.result c.pop.ensures.items (search rules) before in
    let its : c.into_seat.result.ring ≡ ring = c.into_seat.ensures ∙ last in
    subst (λ items. AreAt ring items) (sym c.push_reserved.ensures.items) (all_push (λ (seat : SessionSeatValue). seat.ring ≡ ring) _ c.into_seat.result at its)
