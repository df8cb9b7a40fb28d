use Rattle.std.proofs.Common.{◌≡◌, ap, refl, subst, sym}
use Rattle.std.proofs.lemmas.Result.{on_err_weaker, on_ok_weaker}
use Rattle.waiting_order.specs.Directories.{AreFound, KeepsPlace}
use Rattle.waiting_order.specs.Keeping.{kept_by}
use Rattle.waiting_order.specs.Waiting.{Waiting}
use Rattle.waiting_order.proofs.Keeping.{either, found_changed}
use Rattle.waiting_order.proofs.Timed.{W}
use Rattle.waiting_order.proofs.order.Order.keep.Goals as goal

pub invariant_of-self : goal.invariant_of-self
invariant_of-self c =
    let a = c.self.inside in
    let d = a.directory in
    let r = rw (← c.self.view_is) at c.requires in
    let each : (w : W) → KeepsPlace w (kept_by c.args.delivery c.args.message w) = λ w. record { key = refl; ticket = refl; group = refl; session = refl; destination = refl; durable = refl } in
    either (AreFound d c.keep.new.self.all) c.keep.result
    (on_ok_weaker c.keep.result (λ is. subst (AreFound d) (sym (ap (λ (o : Waiting). o.all) (is r.0 r.1 r.2))) (found_changed d (kept_by c.args.delivery c.args.message) each a.waiters.all r.0 (c.args.key, r.1) r.2 refl c.self.invariant)) c.keep.ensures.ok)
    (on_err_weaker c.keep.result (λ is. subst (AreFound d) (sym (ap (λ (o : Waiting). o.all) is)) c.self.invariant) c.keep.ensures.same)
