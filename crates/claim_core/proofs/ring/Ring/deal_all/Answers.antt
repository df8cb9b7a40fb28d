use Rattle.std.proofs.Common.{arith, ap, ◌∙◌}
use Rattle.claim_core.specs.Seats.{FlushSeatValue, new_session, with_seat}
use Rattle.claim_core.proofs.Starting.{one_more}
use Rattle.claim_core.proofs.ring.Ring.deal_all.Goals as goal

pub loop-number-preserved : goal.loop-number-preserved
loop-number-preserved g c = let old = c.loop-number.invariant in let did = c.in_ok-deal.ensures in let added = c.push_reserved.ensures in
    let more = one_more c.args.self.now c.args.flush.now.base c.loop-number.number c.loop-number.seats.items c.push_reserved.new.self.items c.in_ok-deal.field-0 added.items (omega (arith, old.0))
    (did.dealt ∙ ap (λ (f : FlushSeatValue). new_session f.ring f.base c.loop-number.number) old.2) old.3 old.4 in
    (omega (arith, added.len, old.0), omega (arith, added.capacity, old.1), did.counted ∙ ap with_seat old.2, more.0, more.1)
