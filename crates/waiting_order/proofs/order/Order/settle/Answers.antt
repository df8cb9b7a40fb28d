use Rattle.std.proofs.Common.{◌≡◌, ap, refl, subst, sym}
use Rattle.std.proofs.lemmas.Result.{on_err_weaker, on_ok_weaker}
use Rattle.waiting_order.specs.Directories.{AreFound, KeepsPlace}
use Rattle.waiting_order.specs.Keeping.{settled_at}
use Rattle.waiting_order.specs.Waiting.{Waiting}
use Rattle.waiting_order.proofs.Keeping.{either, found_changed}
use Rattle.waiting_order.proofs.Timed.{W}
use Rattle.waiting_order.proofs.order.Order.settle.Goals as goal

pub invariant_of-self : goal.invariant_of-self
invariant_of-self c =
    let a = c.self.inside in
    let d = a.directory in
    let r = rw (← c.self.view_is) at c.requires in
    let each : (w : W) → KeepsPlace w (settled_at c.args.delivery w) = λ w. record { key = refl; ticket = refl; group = refl; session = refl; destination = refl; durable = refl } in
    either (AreFound d c.settle.new.self.all) c.settle.result
    (on_ok_weaker c.settle.result (λ is. subst (AreFound d) (sym (ap (λ (o : Waiting). o.all) (is r.0 r.1 r.2))) (found_changed d (settled_at c.args.delivery) each a.waiters.all r.0 (c.args.key, r.1) r.2 refl c.self.invariant)) c.settle.ensures.unsettled)
    (on_err_weaker c.settle.result (λ is. subst (AreFound d) (sym (ap (λ (o : Waiting). o.all) is)) c.self.invariant) c.settle.ensures.same)
