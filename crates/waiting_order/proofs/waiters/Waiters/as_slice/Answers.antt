use Rattle.std.proofs.Common.{◌∙◌, List, ap, sym}
use Rattle.std.specs.List.{sum_by}
use Rattle.waiting_order.specs.Waiting.{by_ticket, subs_of}
use Rattle.waiting_order.proofs.Listing.{sum_subs}
use Rattle.waiting_order.proofs.Timed.{W, sum_in_order}
use Rattle.waiting_order.proofs.waiters.Waiters.as_slice.Goals as goal

pub returns : goal.returns
returns c f =
    let a = c.self.inside in
    rw (← c.self.view_is) (ap (λ (l : List W). sum_by f (subs_of l)) c.as_slice.ensures.entries ∙ sum_subs f a.all.entries ∙ sym (sum_in_order (λ (w : W). f w.1.sub) a.next a.all.entries c.self.invariant.timed) ∙ sym (sum_subs f (by_ticket a.next a.all.entries)))
