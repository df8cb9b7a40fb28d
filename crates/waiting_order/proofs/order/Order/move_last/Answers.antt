use Rattle.std.proofs.Common.{◌<◌, ◌∙◌, ◌++◌, ◌∷◌, [], ℕ, ap, refl, remove, subst, sym}
use Rattle.std.specs.List.{AllByRecursion}
use Rattle.frame_core.proofs.Lists.{all_push}
use Rattle.broker_state.proofs.Weights.{all_at, all_removed}
use Rattle.waiting_order.specs.Directories.{AreFound, IsDirectory, IsSlotted}
use Rattle.waiting_order.specs.Waiting.{Waiting}
use Rattle.waiting_order.proofs.Timed.{W}
use Rattle.waiting_order.proofs.order.Order.move_last.Goals as goal

pub move_last-requires : goal.move_last-requires
move_last-requires c =
    let a = c.self.inside in
    let r = rw (← c.self.view_is) at c.requires.there in
    let is = c.move_last-group.ensures r.0 r.1 r.2 in
    (a.waiters.all, r.0, (c.args.key, r.1), r.2, sym (ap (λ p. p.1) is.0), sym (ap (λ p. p.0) is.0), c.self.invariant.directory, subst (λ (n : ℕ). AllByRecursion (λ (w : W). w.1.ticket < n) a.waiters.all) (sym c.next-next.ensures.next) c.next-next.ensures.order.under)

pub invariant_of-self : goal.invariant_of-self
invariant_of-self c =
    let a = c.self.inside in
    let ws = a.waiters.all in
    let r = rw (← c.self.view_is) at c.requires.there in
    let s = r.1 in
    let d = c.move_last.new.self in
    let is = c.move_last-group.ensures r.0 s r.2 in
    let dir = subst (λ (n : ℕ). IsDirectory d (remove ws r.0 ++ (c.args.key, record s { ticket = n }) ∷ [])) c.next-next.ensures.next (c.move_last.ensures ws r.0 (c.args.key, s) c.next-next.ensures.order.rising r.2 (sym (ap (λ p. p.1) is.0)) (sym (ap (λ p. p.0) is.0)) c.self.invariant.directory) in
    subst (AreFound d) (sym (ap (λ (x : Waiting). x.all) is.1)) (record {
      slots = all_push IsSlotted (remove ws r.0) (c.args.key, record s { ticket = a.waiters.next }) (all_removed IsSlotted ws r.0 c.self.invariant.slots) (all_at IsSlotted ws r.0 (c.args.key, s) r.2 c.self.invariant.slots);
      directory = dir;
    })
